use Rattle.std.proofs.Common.{◌≡◌, ◌&&◌, drop}
use Rattle.std.specs.List.{list_all}
use Rattle.osm_value.specs.Ranges.{is_version, passes}
use Rattle.osm_block.specs.Block.{version as version_of}
use Rattle.osm_block.proofs.dense.arrays.all_versions.Given as goal

abbrev pub invariant-loop-version : goal.invariant-loop-version
invariant-loop-version l = (l.all && list_all (λ v. passes is_version (version_of v)) (drop l.version-index l.versions)) ≡ list_all (λ v. passes is_version (version_of v)) l.versions
