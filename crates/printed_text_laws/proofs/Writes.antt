-- Texts that are written one after another, each with the items that its tokens are.
use Rattle.std.proofs.Common.{◌≡◌, ℕ, Bool, true, false, List, [], ◌∷◌, ◌++◌, sym, ap, subst, append_assoc, append-nil}
use Rattle.std.specs.Prelude.{flat_map}
use Rattle.std.specs.List.{join_by, AllByRecursion}
use Rattle.nxf_base.specs.Bytes.{is_word_byte}
use Rattle.tptp_lex.proofs.CallerLemmas.{stops}
use Rattle.nxf_tree.specs.declared.profile.Profile.{Profile}
use Rattle.nxf_terminals.specs.Input.{Item, Input}
use Rattle.syntax_definitions.specs.Files.{statement_parts}
use Rattle.printed_text_laws.proofs.LexedAs.{IsLexedAs}

-- what may follow a text: where the flag says that it ends with a word, no byte that goes on with it
abbrev pub MayFollow : Bool → List ℕ → Type 0
MayFollow true r = stops is_word_byte r
MayFollow false r = Unit {0}

-- the text begins with a byte that goes on with no word
abbrev pub EndsWords : List ℕ → Type 0
EndsWords s = (r : List ℕ) → stops is_word_byte (s ++ r)

-- The tokens of the text are these items, and none is a full stop; the items are a function of those that follow.
pub record Writes (p : Profile) (ends_word : Bool) (s : List ℕ) (g : Input → Input) : Type 0 where
  pub lexed : (r : List ℕ) (i : Input) → MayFollow ends_word r → IsLexedAs p r i → IsLexedAs p (s ++ r) (g i)
  pub splits : (i part : Input) (parts : List Input) → statement_parts i ≡ part ∷ parts → statement_parts (g i) ≡ g part ∷ parts

-- the items of a list, each behind another one
abbrev pub joined : {A : Type 0} → Item → (A → Input → Input) → List A → Input → Input
joined joint items [] i = i
joined joint items (x ∷ xs) i = joint ∷ items x (joined joint items xs i)

module _ (p : Profile) where
  pub as_text : {w : Bool} {s t : List ℕ} {g : Input → Input} → s ≡ t → Writes p w s g → Writes p w t g
  as_text {w = w} {g = g} e h = subst (λ (x : List ℕ). Writes p w x g) e h

  -- a text that ends no word may stand where one that does is wanted
  pub loosely : {s : List ℕ} {g : Input → Input} → Writes p false s g → Writes p true s g
  loosely h = record { lexed = λ r i stop l. h.lexed r i tt l; splits = h.splits }

  pub then_any : {w : Bool} {a b : List ℕ} {g h : Input → Input} → Writes p false a g → Writes p w b h → Writes p w (a ++ b) (λ i. g (h i))
  then_any {a = a} {b = b} {g = g} {h = h} first second = record {
    lexed = λ r i stop l. subst (λ (x : List ℕ). IsLexedAs p x (g (h i))) (sym (append_assoc a b r)) (first.lexed (b ++ r) (h i) tt (second.lexed r i stop l));
    splits = λ i part parts e. first.splits (h i) (h part) parts (second.splits i part parts e);
  }

  pub then_word : {w : Bool} {a b : List ℕ} {g h : Input → Input} → Writes p true a g → EndsWords b → Writes p w b h → Writes p w (a ++ b) (λ i. g (h i))
  then_word {a = a} {b = b} {g = g} {h = h} first ends second = record {
    lexed = λ r i stop l. subst (λ (x : List ℕ). IsLexedAs p x (g (h i))) (sym (append_assoc a b r)) (first.lexed (b ++ r) (h i) (ends r) (second.lexed r i stop l));
    splits = λ i part parts e. first.splits (h i) (h part) parts (second.splits i part parts e);
  }

  pub joined_writes : {A : Type 0} (text : A → List ℕ) (items : A → Input → Input) (separator : List ℕ) (joint : Item) → EndsWords separator → Writes p false separator (λ i. joint ∷ i)
      → (x : A) (xs : List A) → Writes p true (text x) (items x) → AllByRecursion (λ y. Writes p true (text y) (items y)) xs → Writes p true (join_by text separator (x ∷ xs)) (λ i. items x (joined joint items xs i))
  joined_writes text items separator joint ends sep x [] first others = as_text (sym (append-nil (text x))) first
  joined_writes text items separator joint ends sep x (y ∷ ys) first others =
      let rest = flat_map (λ z. separator ++ text z) ys in
      as_text (ap (λ (s : List ℕ). text x ++ s) (sym (append_assoc separator (text y) rest)))
      (then_word first (λ r. subst (stops is_word_byte) (sym (append_assoc separator (text y ++ rest) r)) (ends ((text y ++ rest) ++ r)))
      (then_any sep (joined_writes text items separator joint ends sep y ys others.0 others.1)))
