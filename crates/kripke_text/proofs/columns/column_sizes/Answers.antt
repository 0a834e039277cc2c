use Rattle.std.proofs.Common.{◌≡◌, [], ◌∷◌, sym, ap, subst, ◌∙◌}
use Rattle.nxf_tree.specs.Structures.{symbol_shape}
use Rattle.kripke_text.specs.steps.Subjects.{IsIn, table_of}
use Rattle.kripke_text.proofs.SubjectReads.{existence_has, existence_sizes, symbol_there, if_ok}
use Rattle.kripke_text.proofs.columns.column_sizes.Goals as goal

pub returns-in-Existence : goal.returns-in-Existence
returns-in-Existence c =
    let view = c.args.kripke.now in
    let s = c.in-Existence.sort in
    let has = existence_has c.args.over.now view c.args.subject s c.requires.within c.requires.over c.in-Existence.is c.requires.subject_in in
    let worlds = c.worlds-in-Existence.ensures.worlds in
    let size = c.size.ensures in
    if_ok c.two_sizes-in-Existence.result (λ x. x ≡ c.worlds-in-Existence.result ∷ c.size.result ∷ []) (λ x. x ≡ (table_of view c.args.subject).sizes)
    (λ x e. e ∙ (λ i. worlds i ∷ size i ∷ []) ∙ sym (existence_sizes view s c.requires.within has) ∙ ap (λ y. (table_of view y).sizes) (sym c.in-Existence.is)) c.two_sizes-in-Existence.ensures

pub returns-in-Symbol : goal.returns-in-Symbol
returns-in-Symbol c =
    let view = c.args.kripke.now in
    let there = symbol_there c.args.over.now view c.in-Symbol.symbol c.requires.within c.requires.over (subst (IsIn c.args.over.now) c.in-Symbol.is c.requires.subject_in) in
    if_ok c.symbol_sizes.result (λ x. x ≡ (symbol_shape view.worlds view.sizes c.symbol_entry.result.now).sizes) (λ x. x ≡ (table_of view c.args.subject).sizes)
    (λ x e. e ∙ ap (λ entry. (symbol_shape view.worlds view.sizes entry).sizes) c.symbol_entry.ensures ∙ sym (ap (λ s. s.sizes) there.shape) ∙ ap (λ y. (table_of view y).sizes) (sym c.in-Symbol.is)) c.symbol_sizes.ensures
