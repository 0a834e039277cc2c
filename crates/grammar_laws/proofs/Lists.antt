-- A list in square brackets, whatever its items are.
use Rattle.std.proofs.Common.{◌≡◌, ℕ, zero, suc, List, [], ◌∷◌, ◌++◌, Some, refl, ◌∙◌, append_assoc}
use Rattle.nxf_terminals.specs.declared.sign.Sign.{Sign}
use Rattle.nxf_terminals.specs.declared.sign.Sign.TheVariants as sign
use Rattle.nxf_terminals.specs.Input.{Spelling, Input, Parser, kind}
use Rattle.nxf_terminals.proofs.CallerLemmas.{bound, moved}
use Rattle.syntax_definitions.specs.steps.ReadLists.{list_by, list_from}

pub record ReadList {A : Type 0} (Are : Input → List A → Input → Type 0) (found : List A) (xs : Input) (out : List A) (rest : Input) : Type 0 where
  pub items : List A
  pub out_is : out ≡ found ++ items
  pub are : Are xs items rest

module _ {A : Type 0} (One : Input → A → Input → Type 0) (Are : Input → List A → Input → Type 0)
    (last : (c : Spelling) (xs rest : Input) (a : A) → One xs a ((sign.RightBracket, c) ∷ rest) → Are xs (a ∷ []) rest)
    (more : (c : Spelling) (xs mid rest : Input) (a : A) (others : List A) → One xs a ((sign.Comma, c) ∷ mid) → Are mid others rest → Are xs (a ∷ others) rest) where
  list_next : (one : Parser A) (k : ℕ) (found : List A) (xs : Input) (a : A) (j : Sign) (v : Spelling) (ys : Input) (out : List A) (rest : Input) → One xs a ((j, v) ∷ ys)
      → list_by (list_from one k (found ++ a ∷ [])) (found ++ a ∷ []) j ((j, v) ∷ ys) ≡ Some (out, rest)
      → ((zs : Input) → list_from one k (found ++ a ∷ []) zs ≡ Some (out, rest) → ReadList Are (found ++ a ∷ []) zs out rest) → ReadList Are found xs out rest
  list_next one k found xs a sign.Comma v ys out rest d h again =
      let r = again ys h in
      record { items = a ∷ r.items; out_is = r.out_is ∙ append_assoc found (a ∷ []) r.items; are = more v xs ys rest a r.items d r.are }
  list_next one k found xs a sign.RightBracket v ys out rest d h again =
      moved (λ (o : List A) r. ReadList Are found xs o r) (found ++ a ∷ [], ys) (out, rest) h (record { items = a ∷ []; out_is = refl; are = last v xs ys a d })
  list_next one k found xs a _ v ys out rest d h again = absurd cc

  list_then : (one : Parser A) (k : ℕ) (found : List A) (xs mid : Input) (a : A) (out : List A) (rest : Input) → One xs a mid
      → list_by (list_from one k (found ++ a ∷ [])) (found ++ a ∷ []) (kind mid) mid ≡ Some (out, rest)
      → ((zs : Input) → list_from one k (found ++ a ∷ []) zs ≡ Some (out, rest) → ReadList Are (found ++ a ∷ []) zs out rest) → ReadList Are found xs out rest
  list_then one k found xs [] a out rest d h again = absurd cc
  list_then one k found xs (y ∷ ys) a out rest d h again = list_next one k found xs a y.0 y.1 ys out rest d h again

  pub list_sound : (one : Parser A) → ((xs : Input) (a : A) (rest : Input) → one xs ≡ Some (a, rest) → One xs a rest)
      → (k : ℕ) (found : List A) (xs : Input) (out : List A) (rest : Input) → list_from one k found xs ≡ Some (out, rest) → ReadList Are found xs out rest
  unfolding list_from
  list_sound one sound zero found xs out rest h = absurd cc
  list_sound one sound (suc k) found xs out rest h =
      let b = bound (one xs) (λ a i. list_by (list_from one k (found ++ a ∷ [])) (found ++ a ∷ []) (kind i) i) (out, rest) h in
      list_then one k found xs b.rest b.value out rest (sound xs b.value b.rest b.first) b.then (λ zs e. list_sound one sound k (found ++ b.value ∷ []) zs out rest e)
