use Rattle.std.proofs.Common.{◌≡◌, ◌+◌, List, [], ◌∷◌, ◌++◌, length, drop, take, Some, ap, ◌∙◌, sym, arith}
use Rattle.std.proofs.lemmas.List.{at_drop_more, length-take-le}
use Rattle.std.proofs.lemmas.Grind.{take_at_read}
use Rattle.nxf_tree.specs.declared.tree.Statement.{Statement}
use Rattle.nxf_tree.specs.Faults.{first_fault}
use Rattle.nxf_tree.specs.Sorting.{modal_language}
use Rattle.nxf_tree.specs.SortFaults.{formula_statement_fault}
use Rattle.numbered_definitions.specs.NamedForm.{formulas_from}
use Rattle.nxf_sorts.specs.steps.Statements.{KnowsFile}
use Rattle.nxf_sorts.proofs.TypingLemmas.{fine_here, refused_here}
use Rattle.nxf_sorts.proofs.StatementLemmas.{from_append, known_at}
use Rattle.nxf_sorts.proofs.statements.number_statements.Goals as goal

pub returns-in-Err : goal.returns-in-Err
returns-in-Err c =
    let J = λ (before : List Statement) (s : Statement). formula_statement_fault (modal_language c.args.names.now.signature) c.args.names.now.declared s in
    let ss = c.args.statements.now in
    let i = c.loop-statement.statement-index in
    let s = c.statement-item.result in
    let split : drop i ss ≡ s ∷ drop (i + 1) ss = at_drop_more (λ l. l) ss i s c.loop-statement-test.true ∙ ap (λ y. y ∷ drop (i + 1) ss) (sym c.statement-item.is) in
    let here = c.loop-statement.invariant.faults ∙ ap (first_fault J (c.loop-statement.place + 1) (take i ss)) split in
    rw here (refused_here J (c.loop-statement.place + 1) (take i ss) s (drop (i + 1) ss) _ (c.at_statement.ensures _ c.in-Err.ensures))

pub loop-statement-preserved : goal.loop-statement-preserved
loop-statement-preserved c =
    let sig = c.args.names.now.signature in
    let J = λ (before : List Statement) (s : Statement). formula_statement_fault (modal_language sig) c.args.names.now.declared s in
    let ss = c.args.statements.now in
    let i = c.loop-statement.statement-index in
    let s = c.statement-item.result in
    let split : drop i ss ≡ s ∷ drop (i + 1) ss = at_drop_more (λ l. l) ss i s c.loop-statement-test.true ∙ ap (λ y. y ∷ drop (i + 1) ss) (sym c.statement-item.is) in
    let more : take (i + 1) ss ≡ take i ss ++ s ∷ [] = (take_at_read ss i s c.loop-statement-test.true).1 ∙ ap (λ y. take i ss ++ y ∷ []) (sym c.statement-item.is) in
    let long : length (take i ss) ≡ i = length-take-le i ss (omega (arith, c.loop-statement-test.true)) in
    let number : c.loop-statement.place + 1 ≡ 1 + length (take i ss) = omega (arith, long, c.loop-statement.invariant.place) in
    record {
      faults =
          c.loop-statement.invariant.faults
          ∙ ap (first_fault J (c.loop-statement.place + 1) (take i ss)) split
          ∙ fine_here J (c.loop-statement.place + 1) (take i ss) s (drop (i + 1) ss) c.in-Ok.ensures.no_fault
          ∙ ap (λ l. first_fault J (c.loop-statement.place + 1 + 1) l (drop (i + 1) ss)) (sym more);
      named = λ known.
          let one : KnowsFile sig (s ∷ []) = rw c.statement-item.is (known_at sig ss i s c.loop-statement-test.true known) in
          c.in-Ok.ensures.named one (formulas_from 1 (take i ss)) (c.loop-statement.invariant.named known)
          ∙ ap Some (ap (λ k. formulas_from 1 (take i ss) ++ formulas_from k (s ∷ [])) number ∙ sym (from_append 1 (take i ss) (s ∷ [])) ∙ ap (formulas_from 1) (sym more));
      place = ap (λ k. k + 1) c.loop-statement.invariant.place;
    }
