use Rattle.std.proofs.Common.{◌≡◌, true}
use Rattle.nxf_tree.specs.Counting.{all_below, any_below}
use Rattle.nxf_tree.specs.Rows.{size_at}
use Rattle.fin_struct.specs.KripkeTables.{exists_in}
use Rattle.domains.proofs.existence.someone_exists.Given as goal

abbrev pub invariant-loop-world : goal.invariant-loop-world
invariant-loop-world l = all_below l.world (λ w. any_below (size_at l.kripke.sizes l.sort) (λ a. exists_in l.kripke l.sort w a)) ≡ true
