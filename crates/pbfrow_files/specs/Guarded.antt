-- What a `Guarded` shows.
use Rattle.pbfrow_files.specs.declared.guarded.Guarded.{Guarded}

-- the disk that it passes calls on to
abbrev pub disk_of : {D : Type 0} → Guarded D → D
disk_of it = it.disk
