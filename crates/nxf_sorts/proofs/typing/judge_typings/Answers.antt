use Rattle.std.proofs.Common.{◌≡◌, ◌+◌, [], ◌∷◌, ◌++◌, drop, take, ap, ◌∙◌, sym}
use Rattle.std.proofs.lemmas.List.{at_drop_more}
use Rattle.std.proofs.lemmas.List.Sums.{fold-append}
use Rattle.std.proofs.lemmas.Grind.{take_at_read}
use Rattle.nxf_tree.specs.Faults.{first_fault}
use Rattle.nxf_tree.specs.Sorting.{modal_language}
use Rattle.nxf_tree.specs.SortFaults.{type_statement_fault}
use Rattle.name_laws.proofs.Appended.{declared-append}
use Rattle.nxf_signatures.proofs.CallerLemmas.{sort_texts-append}
use Rattle.nxf_sorts.proofs.UseLemmas.{fault_is}
use Rattle.nxf_sorts.proofs.TypingLemmas.{statement_is, fine_here, refused_here}
use Rattle.nxf_sorts.proofs.typing.judge_typings.Goals as goal

pub returns-in-Err : goal.returns-in-Err
returns-in-Err c =
    let J = type_statement_fault (modal_language c.args.names.now.signature) in
    let ss = c.args.statements.now in
    let i = c.loop-statement.statement-index in
    let s = c.statement-item.result in
    let split : drop i ss ≡ s ∷ drop (i + 1) ss = at_drop_more (λ l. l) ss i s c.loop-statement-test.true ∙ ap (λ y. y ∷ drop (i + 1) ss) (sym c.statement-item.is) in
    let here = c.loop-statement.invariant.faults ∙ ap (first_fault J (c.loop-statement.place + 1) (take i ss)) split in
    let same = statement_is (modal_language c.args.names.now.signature) c.loop-statement.before (take i ss) c.loop-statement.invariant.sorts c.loop-statement.invariant.symbols s in
    rw here (refused_here J (c.loop-statement.place + 1) (take i ss) s (drop (i + 1) ss) _ (c.at_statement.ensures _ (fault_is _ _ _ (sym same) c.in-Err.ensures)))

pub loop-statement-preserved : goal.loop-statement-preserved
loop-statement-preserved c =
    let J = type_statement_fault (modal_language c.args.names.now.signature) in
    let ss = c.args.statements.now in
    let i = c.loop-statement.statement-index in
    let s = c.statement-item.result in
    let split : drop i ss ≡ s ∷ drop (i + 1) ss = at_drop_more (λ l. l) ss i s c.loop-statement-test.true ∙ ap (λ y. y ∷ drop (i + 1) ss) (sym c.statement-item.is) in
    let more : take (i + 1) ss ≡ take i ss ++ s ∷ [] = (take_at_read ss i s c.loop-statement-test.true).1 ∙ ap (λ y. take i ss ++ y ∷ []) (sym c.statement-item.is) in
    let same = statement_is (modal_language c.args.names.now.signature) c.loop-statement.before (take i ss) c.loop-statement.invariant.sorts c.loop-statement.invariant.symbols s in
    record {
      faults =
          c.loop-statement.invariant.faults
          ∙ ap (first_fault J (c.loop-statement.place + 1) (take i ss)) split
          ∙ fine_here J (c.loop-statement.place + 1) (take i ss) s (drop (i + 1) ss) (sym same ∙ c.in-Ok.ensures)
          ∙ ap (λ l. first_fault J (c.loop-statement.place + 1 + 1) l (drop (i + 1) ss)) (sym more);
      sorts = rw (more, sort_texts-append, fold-append, ← c.loop-statement.invariant.sorts) c.in_ok-note-in-Ok.ensures.sorts;
      symbols = rw (more, declared-append, fold-append, ← c.loop-statement.invariant.symbols) c.in_ok-note-in-Ok.ensures.symbols;
      place = ap (λ k. k + 1) c.loop-statement.invariant.place;
    }
