-- The progress line of a command.
use Rattle.std.specs.Prelude.{ℕ, ◌-◌, ◌*◌, ◌/◌, ◌%◌, ◌==◌, List, [], ◌++◌, Option, Some, None, codes, if◌then◌else◌}
use Rattle.std.specs.Fmt.{decimal}
use Rattle.pbfrow_reading.specs.declared.progress.Progress.{Progress}

-- a number of tenths, with one digit behind the point
abbrev pub with_point : ℕ → List ℕ
with_point tenths = decimal (tenths / 10) ++ codes "." ++ decimal (tenths % 10)

-- bytes in units of 1,000,000, rounded down to a tenth
abbrev pub megabytes : ℕ → List ℕ
megabytes bytes = with_point (bytes / 100000) ++ codes " MB"

-- of how many bytes, where that is known
abbrev pub size_text : Option ℕ → List ℕ
size_text None = []
size_text (Some size) = codes " of " ++ megabytes size

-- how many bytes a second there were
abbrev pub rate_of : ℕ → ℕ → ℕ
rate_of bytes milliseconds = bytes * 1000 / milliseconds

-- in how many seconds the rest is done at the rate so far, where the size is known and there is a rate
abbrev pub left_text : ℕ → ℕ → Option ℕ → List ℕ
left_text bytes milliseconds None = []
left_text bytes milliseconds (Some size) =
    if bytes == 0 then [] else codes ", " ++ decimal ((size - bytes) * milliseconds / (bytes * 1000)) ++ codes " s left"

-- how many bytes and blobs are done, and how fast
abbrev pub done_text : Progress → List ℕ
done_text p = megabytes p.bytes ++ size_text p.size

abbrev pub speed_text : Progress → List ℕ
speed_text p = codes ", " ++ decimal p.blobs ++ codes " blobs, " ++ megabytes (rate_of p.bytes p.milliseconds) ++ codes "/s"

-- the progress line: how far the work has come, how fast it goes and how long it may still take
abbrev pub progress_line : Progress → List ℕ
progress_line p = done_text p ++ speed_text p ++ left_text p.bytes p.milliseconds p.size
