use Rattle.std.proofs.Common.{rules, ◌≡◌, ℕ, List, length}
use Rattle.pbf_wire.specs.Readings.{sint64, int32}
use Rattle.osm_block.specs.Message.{boolean}
use Rattle.osm_block.proofs.DensePhaseLemmas.{same_lengths, fits_lengths}
use Rattle.osm_block.proofs.dense.arrays.lengths_fit.Goals as goal

pub returns : goal.returns
returns c =
    let d = c.args.dense.now in
    let ids : List ℕ = d.ids.numbers.items in
    let count : c.len-count.result ≡ length ids = search rules in
    let lats_count : c.len.result ≡ length d.lats.numbers.items = search rules in
    let lons_count : c.len-2.result ≡ length d.lons.numbers.items = search rules in
    let lats = same_lengths sint64 sint64 d.lats.numbers.items ids _ _ lats_count count in
    let lons = same_lengths sint64 sint64 d.lons.numbers.items ids _ _ lons_count count in
    let versions = fits_lengths int32 sint64 d.info.versions.numbers.items ids _ _ count c.fits_count-versions.ensures in
    let timestamps = fits_lengths sint64 sint64 d.info.timestamps.numbers.items ids _ _ count c.fits_count-timestamps.ensures in
    let changesets = fits_lengths sint64 sint64 d.info.changesets.numbers.items ids _ _ count c.fits_count-changesets.ensures in
    let uids = fits_lengths sint64 sint64 d.info.uids.numbers.items ids _ _ count c.fits_count-uids.ensures in
    let users = fits_lengths sint64 sint64 d.info.users.numbers.items ids _ _ count c.fits_count-users.ensures in
    let visible = fits_lengths boolean sint64 d.info.visible.numbers.items ids _ _ count c.fits_count-visible.ensures in
    cc (lats, lons, versions, timestamps, changesets, uids, users, visible)
