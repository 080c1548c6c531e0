use Rattle.std.proofs.Common.{◌≡◌, ◌-◌, ◌<◌, ltb, true, false, take, sym, arith, rules}
use Rattle.std.proofs.lemmas.Bool.{ltb-true, ltb-false}
use Rattle.std.proofs.lemmas.List.{length-take-le, get_or-take}
use Rattle.std.proofs.lemmas.List.Sums.{prefix_len_is}
use Rattle.std.proofs.lemmas.List.Sorted.{IsPartitionPoint-from_clause}
use Rattle.std.specs.List.Sorted.{IsPartitionPoint}
use Rattle.measured.proofs.Parted.{parted}
use Rattle.measured.proofs.layout.Layout.paths_before.Goals as goal

-- the paths below the result lie before the slice, and the others don't
point : (c : goal.After-partition_point) → IsPartitionPoint (λ p. ltb p c.args.j ≡ true) (λ p. ltb p c.args.j ≡ false) (take c.args.self.now.count c.args.self.now.paths) c.partition_point.result
point c =
    let s = c.args.self.now in
    IsPartitionPoint-from_clause (λ p. ltb p c.args.j) (take s.count s.paths) c.partition_point.result c.partition_point.ensures.partitioned (parted s.slices s.count s.paths s.ok c.args.j) (λ a r f k. search rules)

pub returns : goal.returns
returns c =
    let s = c.args.self.now in
    let long = length-take-le s.count s.paths s.ok.0.4 in
    let n = c.partition_point.result in
    let p = point c in
    record {
      value = sym (prefix_len_is (λ p. ltb p c.args.j) (take s.count s.paths) n 0 (omega arith) (λ k h. p.0 k 0 (omega arith) h) (λ h. p.1 n 0 (omega arith) h));
      few = omega arith;
      left = λ h. let low : n - 1 < s.count = omega arith in simp get_or-take at (ltb-true _ _ (p.0 (n - 1) 0 (omega arith) (omega arith)));
      right = λ h. simp get_or-take at (ltb-false _ _ (p.1 n 0 (omega arith) (omega arith)));
    }
