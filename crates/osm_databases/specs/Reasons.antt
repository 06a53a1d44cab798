-- Which fault it is that a database's files can't be opened, or that something stands in the way of its store.
use Rattle.std.specs.Prelude.{pos, None, Some}
use Rattle.osm_rows.specs.declared.fault.StoreFault.{StoreFault}
use Rattle.osm_rows.specs.declared.fault.StoreFault.TheVariants as fault
use Rattle.osm_openings.specs.declared.obstacles.Obstacle.{Obstacle}
use Rattle.osm_openings.specs.declared.obstacles.Obstacle.TheVariants as obstacle
use Rattle.pbfrow_files.specs.declared.fault.OpenFault.{OpenFault}
use Rattle.pbfrow_files.specs.declared.fault.OpenFault.TheVariants as file

-- a file that is missing is no store, and any other failure but want of memory is one of the disk
abbrev pub fault_of_file : OpenFault → StoreFault
fault_of_file file.Missing = fault.NotThisStore None
fault_of_file file.Memory = fault.Memory
fault_of_file _ = fault.Disk

-- another program's database is no store, nor is one that wasn't made to its end; and one of the first layout is a store of
-- version 1
abbrev pub fault_of_obstacle : Obstacle → StoreFault
fault_of_obstacle obstacle.Stranger = fault.NotThisStore None
fault_of_obstacle obstacle.Unfinished = fault.NotThisStore None
fault_of_obstacle obstacle.FirstLayout = fault.NotThisStore (Some (pos 1))
fault_of_obstacle _ = fault.Disk
