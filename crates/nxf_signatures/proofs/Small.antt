-- Numbers of 32 bits are enough for the names of a signature.
use Rattle.std.proofs.Common.{◌≡◌, ℕ, ◌+◌, ◌^◌, ◌≤◌, Bool, true, false, List, [], ◌∷◌, length, refl, sym, ap, ◌∙◌, arith}
use Rattle.std.specs.Prelude.{suc, map}
use Rattle.nxf_tree.specs.declared.tree.IndexName.TheVariants.{Named}
use Rattle.nxf_tree.specs.declared.tree.SortName.TheVariants.{User}
use Rattle.nxf_tree.specs.declared.tree.Signature.{Signature}
use Rattle.nxf_tree.specs.Sorting.{SymbolType}
use Rattle.nxf_signatures.specs.Places.{sort_list, index_list}
use Rattle.nxf_signatures.specs.Naming.{HasNames}

pub mapped_length : {A B : Type 0} (f : A → B) (xs : List A) → length (map f xs) ≡ length xs
mapped_length f [] = refl
mapped_length f (x ∷ xs) = ap suc (mapped_length f xs)

sorts_few : (b : Bool) (texts : List (List ℕ)) → length (sort_list b texts) ≤ length texts + 1
sorts_few true texts = omega (arith, mapped_length User texts)
sorts_few false texts = omega (arith, mapped_length User texts)

indexes_few : (b : Bool) (texts : List (List ℕ)) → length (index_list b texts) ≤ length texts + 1
indexes_few true texts = omega (arith, mapped_length Named texts)
indexes_few false texts = omega (arith, mapped_length Named texts)

pub small_enough : (sig : Signature) (individual : Bool) (user_sorts : List (List ℕ)) (typed_symbols : List (List ℕ × SymbolType)) (plain : Bool) (named_indexes : List (List ℕ)) → HasNames sig individual user_sorts typed_symbols plain named_indexes
    → length sig.sorts + length sig.symbols + length sig.indexes ≤ 2 ^ 31
small_enough sig individual user_sorts typed_symbols plain named_indexes h =
    let s : length sig.sorts ≡ length (sort_list individual user_sorts) = sym (mapped_length (λ e. e.name) sig.sorts) ∙ ap length h.sorts in
    let y : length sig.symbols ≡ length typed_symbols = sym (mapped_length (λ e. e.name) sig.symbols) ∙ ap length h.symbols ∙ mapped_length (λ (e : List ℕ × SymbolType). e.0) typed_symbols in
    let i : length sig.indexes ≡ length (index_list plain named_indexes) = sym (mapped_length (λ e. e.name) sig.indexes) ∙ ap length h.indexes in
    omega (arith, s, y, i, sorts_few individual user_sorts, indexes_few plain named_indexes, h.small)
