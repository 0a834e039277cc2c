use Rattle.std.proofs.Common.{◌≡◌, ◌∙◌, ap, sym}
use Rattle.std.specs.Prelude.{map}
use Rattle.nxf_tree.specs.Signature.{takes_world}
use Rattle.fin_struct.specs.KripkeTables.{blank_kripke}
use Rattle.fin_struct.proofs.BlankKripke.{blank-is-kripke, blank-is-for, made-kripke, shapes-positive, shapes-small}
use Rattle.fin_struct.proofs.kripke.make.Goals as goal
use Rattle.fin_struct.proofs.kripke.make.Goals.{In_ok-sizes}

pub new-requires-clause-positive : goal.new-requires-clause-positive
new-requires-clause-positive c =
    shapes-positive c.args.over.now c.args.worlds c.args.sizes.now c.in_ok-shapes.shapes.items c.in_ok-shapes.ensures c.requires.well_formed c.requires.sizes

pub new-requires-clause-small : goal.new-requires-clause-small
new-requires-clause-small c =
    shapes-small c.args.over.now c.args.worlds c.args.sizes.now c.in_ok-shapes.shapes.items c.in_ok-shapes.ensures c.requires.within

made : (c : In_ok-sizes) → blank_kripke c.args.over.now c.args.worlds c.args.sizes.now ≡ record {
  worlds = c.args.worlds;
  actual = 0;
  sizes = c.in_ok-sizes.sizes.items;
  indexes = c.len-indexes.result;
  existence = c.in_ok-numbers.numbers.existence.items;
  first_symbol = c.in_ok-numbers.numbers.first_symbol;
  world_first = c.in_ok-world_first.world_first.items;
  tables = c.in_ok-grid.grid;
}
made c =
    made-kripke c.args.over.now c.args.worlds c.args.sizes.now c.in_ok-sizes.sizes.items c.len-indexes.result c.in_ok-numbers.numbers.existence.items c.in_ok-numbers.numbers.first_symbol c.in_ok-world_first.world_first.items c.in_ok-grid.grid c.in_ok-shapes.shapes.items
    c.in_ok-sizes.ensures c.len-indexes.ensures (rw (c.as_slice.ensures, c.len-indexes.ensures) at c.in_ok-numbers.ensures.existence) (rw (c.as_slice.ensures, c.len-indexes.ensures) at c.in_ok-numbers.ensures.first_symbol) (c.in_ok-world_first.ensures ∙ ap (map takes_world) c.as_slice-2.ensures) c.in_ok-grid.ensures c.in_ok-shapes.ensures

pub invariant_of-result : goal.invariant_of-result
invariant_of-result c = rw (made c) at (blank-is-kripke c.args.over.now c.args.worlds c.args.sizes.now c.requires.well_formed c.requires.sizes c.requires.within)

pub returns-clause-made : goal.returns-clause-made
returns-clause-made c = sym (made c)

pub returns-clause-over : goal.returns-clause-over
returns-clause-over c = rw (made c) at (blank-is-for c.args.over.now c.args.worlds c.args.sizes.now c.requires.sizes)

pub returns-clause-within : goal.returns-clause-within
returns-clause-within c = rw (made c) at (blank-is-kripke c.args.over.now c.args.worlds c.args.sizes.now c.requires.well_formed c.requires.sizes c.requires.within)
