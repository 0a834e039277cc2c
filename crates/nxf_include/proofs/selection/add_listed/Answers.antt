use Rattle.std.proofs.Common.{◌≡◌, ◌++◌, ◌∙◌, true, false, ap, sym, arith}
use Rattle.std.specs.List.{list_any}
use Rattle.std.specs.Prelude.{◌||◌}
use Rattle.std.specs.Vec.Iter.{into_iter_items}
use Rattle.indexmap.specs.IndexSet.{contains}
use Rattle.nxf_tree.specs.Names.{same_text}
use Rattle.syntax_definitions.specs.Gathered.{is_listed, has_name}
use Rattle.nxf_include.proofs.Selecting.{kept_not, found_next, added_next, found_end}
use Rattle.nxf_include.proofs.selection.add_listed.Goals as goal

pub loop-statement-preserved-in-Continue-branch-2 : goal.loop-statement-preserved-in-Continue-branch-2
loop-statement-preserved-in-Continue-branch-2 c =
    let p = is_listed c.args.names.now in
    let rest = into_iter_items c.next.new.self in
    let listed : p c.in-Some.statement ≡ true = sym (c.is_among.ensures c.args.names.now c.in_ok-listed.ensures) ∙ c.if-is_among.true in (
      added_next p p c.in-Some.statement rest _ c.in-Some.ensures.steps.0 c.loop-statement.into _ _ listed c.in_ok-keep.ensures.added c.loop-statement.invariant.0,
      λ name. found_next p (has_name name) c.in-Some.statement rest _ c.in-Some.ensures.steps.0 (contains same_text c.loop-statement.found name) _ _ listed (c.in_ok-keep.ensures.found name) (c.loop-statement.invariant.1 name),
    )

pub loop-statement-preserved : goal.loop-statement-preserved
loop-statement-preserved c =
    let p = is_listed c.args.names.now in
    let rest = into_iter_items c.next.new.self in
    let unlisted : p c.in-Some.statement ≡ false = sym (c.is_among.ensures c.args.names.now c.in_ok-listed.ensures) ∙ c.if-is_among.false in
    let same = sym (kept_not p p c.in-Some.statement rest _ c.in-Some.ensures.steps.0 unlisted) in (
      ap (λ ss. c.loop-statement.into ++ ss) same ∙ c.loop-statement.invariant.0,
      λ name. ap (λ ss. contains same_text c.loop-statement.found name || list_any (has_name name) ss) same ∙ c.loop-statement.invariant.1 name,
    )

pub returns-clause-found : goal.returns-clause-found
returns-clause-found c = λ name.
    found_end (is_listed c.args.names.now) (has_name name) (into_iter_items c.loop-statement.statement-iterator) (contains same_text c.loop-statement.found name) _ (omega (arith, c.loop-statement.statement-iterator.rest.ok, c.in-None.ensures.steps.0)) (c.loop-statement.invariant.1 name)
