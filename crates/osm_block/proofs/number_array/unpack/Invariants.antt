use Rattle.std.proofs.Common.{◌≡◌, ◌≤◌, ◌+◌, ◌++◌, ◌-◌, length, take}
use Rattle.pbf_wire.specs.Readings.{front, first_fault, numbers, packed}
use Rattle.osm_block.proofs.RowLemmas.{row_from}
use Rattle.osm_block.proofs.number_array.unpack.Given as goal

-- what is appended and gathered, and the numbers that are left
abbrev pub invariant-loop-at : goal.invariant-loop-at
invariant-loop-at l = record {
  within : l.at ≤ length l.payload;
  long : length l.run ≡ 64;
  room : l.count ≤ 64;
  so_far : (l.out.items ++ take l.count l.run) ++ front (row_from l.at l.payload) ≡ l.fn.out.items ++ numbers l.payload;
  fault : first_fault (row_from l.at l.payload) ≡ packed l.payload;
}

-- the same, and there is room for a number at each of the bytes that are left of sixteen
abbrev pub invariant-loop-at-2 : goal.invariant-loop-at-2
invariant-loop-at-2 l = record {
  within : l.at ≤ length l.payload;
  long : length l.run ≡ 64;
  room : l.count + (l.next - l.at) ≤ 64;
  so_far : (l.out.items ++ take l.count l.run) ++ front (row_from l.at l.payload) ≡ l.fn.out.items ++ numbers l.payload;
  fault : first_fault (row_from l.at l.payload) ≡ packed l.payload;
}

abbrev pub decreases-loop-at : goal.decreases-loop-at
decreases-loop-at l = length l.payload - l.at

abbrev pub decreases-loop-at-2 : goal.decreases-loop-at-2
decreases-loop-at-2 l = l.next - l.at
