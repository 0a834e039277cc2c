use Rattle.std.proofs.Common.{◌≡◌, ◌∙◌, ap, sym, add-one, arith, get_or, Some}
use Rattle.std.specs.List.{list_any}
use Rattle.syntax_definitions.specs.Gathered.{has_name}
use Rattle.nxf_include.proofs.Selecting.{missing_here, missing_later}
use Rattle.nxf_include.proofs.selection.missing.Goals as goal

pub returns-then-not-contains : goal.returns-then-not-contains
returns-then-not-contains c = λ ss h.
    let d = c.name-item.result in
    let at : get_or c.args.names.now c.loop-name.name-index d ≡ d = sym c.name-item.is in
    c.loop-name.invariant ss h
    ∙ missing_here ss c.args.names.now c.loop-name.name-index d (omega arith) (ap (λ n. list_any (has_name n) ss) at ∙ sym (h d) ∙ sym c.contains.ensures ∙ c.if-not-contains.true)
    ∙ ap Some at

pub loop-name-preserved : goal.loop-name-preserved
loop-name-preserved c = λ ss h.
    let d = c.name-item.result in
    let at : get_or c.args.names.now c.loop-name.name-index d ≡ d = sym c.name-item.is in
    rw add-one (c.loop-name.invariant ss h
    ∙ missing_later ss c.args.names.now c.loop-name.name-index d (omega arith) (ap (λ n. list_any (has_name n) ss) at ∙ sym (h d) ∙ sym c.contains.ensures ∙ c.if-not-contains.false))
