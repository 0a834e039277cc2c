-- At most one refusal.
use Rattle.std.proofs.Common.{◌≡◌, ℕ, ◌<◌, ◌≤◌, List, ◌∷◌, map, length, refl, sym, ap, ap₂, ◌∙◌, arith, inl, inr}
use Rattle.std.proofs.lemmas.List.{map-append}
use Rattle.std.proofs.lemmas.Bool.{cases_lt}
use Rattle.nxf_tree.specs.declared.tree.Signature.{Signature}
use Rattle.nxf_tree.specs.ClassicalSignature.{classical_signature_of}
use Rattle.nxf_tree.specs.Structures.{KripkeStructure, IsOver, tables_with}
use Rattle.fin_struct.specs.Limits.{cells_of}
use Rattle.kripke_text_definitions.specs.declared.error.KripkeTextError.TheVariants.{Form, TooManyWorlds, TooBig, Memory}
use Rattle.plain_tokens.specs.PlainTokens.{Plain}
use Rattle.kripke_text_definitions.specs.TokenStatements.{statements}
use Rattle.plain_tokens.specs.Marks.{plains}
use Rattle.kripke_text_definitions.specs.KripkeText as text
use Rattle.kripke_text_definitions.specs.Reading.{BeginsSome, IsFormFault, HasHead, head_length}
use Rattle.kripke_text_definitions.specs.Reading.{AreFew, Explains}
use Rattle.kripke_text_laws.specs.KripkeTextLaws.{OneRefusalLaw, NoRefusalLaw}
use Rattle.kripke_text_laws.proofs.Splits.{split_whole}
use Rattle.kripke_text_laws.proofs.Whole.{all_end, tokens_joined}
use Rattle.kripke_text_laws.proofs.Equal.{head_same, domains_long}
use Rattle.kripke_text_laws.proofs.Faults.{longer, not_before, one_fault, whole_is_good}

-- two heads of one token list are equal
pub same_heads : (sig : Signature) (tokens : List Plain) (m n : ℕ) (sizes others : List ℕ) → HasHead sig tokens m sizes → HasHead sig tokens n others → (m ≡ n) × (sizes ≡ others)
same_heads sig tokens m n sizes others g h =
    let same = head_same sig g.K h.K g.rest h.rest g.over h.over (sym g.begins ∙ h.begins) in
    (sym g.worlds_are ∙ same.worlds ∙ h.worlds_are, sym g.sizes_are ∙ same.sizes ∙ h.sizes_are)

head_begins : (sig : Signature) (K : KripkeStructure) → IsOver sig K → BeginsSome sig (map plains (text.head_marks sig K.worlds K.actual K.sizes))
head_begins sig K over = record {
  K = K;
  over = over;
  after = map plains (text.table_statements (text.labels_of sig) (tables_with K));
  begins = map-append plains (text.head_marks sig K.worlds K.actual K.sizes) (text.table_statements (text.labels_of sig) (tables_with K));
}

-- where the head is whole, no fault is in it
no_fault_in_head : (sig : Signature) (tokens : List Plain) (n k : ℕ) (sizes : List ℕ) → HasHead sig tokens n sizes → IsFormFault sig tokens k → k ≤ head_length sig → ⊥
no_fault_in_head sig tokens n k sizes h f below =
    let head = map plains (text.head_marks sig h.K.worlds h.K.actual h.K.sizes) in
    let long : length f.before < length head = omega (arith, f.number, domains_long sig.sorts h.K.sizes h.over.sizes) in
    let t = longer f.before f.rest head h.rest (sym f.parts ∙ h.begins) long in
    not_before sig f.before f.rest head t.0 t.1 t.2 t.3 t.4 (head_begins sig h.K h.over) f.fault

few_first : (sig : Signature) (n : ℕ) (sizes : List ℕ) → AreFew sig n sizes → n ≤ 65535
few_first sig n sizes h = h.few_worlds

few_second : (sig : Signature) (n : ℕ) (sizes : List ℕ) → AreFew sig n sizes → cells_of (classical_signature_of sig) (n ∷ sizes) ≤ 4194304
few_second sig n sizes h = h.few_cells

form_many : (sig : Signature) (tokens : List Plain) (k n : ℕ) → Explains sig tokens (Form k) → Explains sig tokens (TooManyWorlds n) → ⊥
form_many sig tokens k n f g = elim (cases_lt (head_length sig) k) [
  | inl behind ↦ let few = few_first sig n g.0 (f.1 behind n g.0 g.1) in omega (arith, few, g.2)
  | inr within ↦ no_fault_in_head sig tokens n k g.0 g.1 f.0 within
]

form_big : (sig : Signature) (tokens : List Plain) (k c : ℕ) → Explains sig tokens (Form k) → Explains sig tokens (TooBig c) → ⊥
form_big sig tokens k c f g = elim (cases_lt (head_length sig) k) [
  | inl behind ↦ let few = few_second sig g.0 g.1 (f.1 behind g.0 g.1 g.2) in omega (arith, few, g.4, g.5)
  | inr within ↦ no_fault_in_head sig tokens g.0 k g.1 g.2 f.0 within
]

many_big : (sig : Signature) (tokens : List Plain) (n c : ℕ) → Explains sig tokens (TooManyWorlds n) → Explains sig tokens (TooBig c) → ⊥
many_big sig tokens n c f g =
    let same = (same_heads sig tokens n g.0 f.0 g.1 f.1 g.2).0 in
    omega (arith, same, f.2, g.3)

pub one-refusal : OneRefusalLaw
one-refusal sig tokens (Form k) (Form l) f g a b = ap Form (one_fault sig tokens k l f.0 g.0)
one-refusal sig tokens (Form k) (TooManyWorlds n) f g a b = absurd (form_many sig tokens k n f g)
one-refusal sig tokens (Form k) (TooBig c) f g a b = absurd (form_big sig tokens k c f g)
one-refusal sig tokens (Form k) Memory f g a b = absurd (b refl)
one-refusal sig tokens (TooManyWorlds n) (Form l) f g a b = absurd (form_many sig tokens l n g f)
one-refusal sig tokens (TooManyWorlds m) (TooManyWorlds n) f g a b = ap TooManyWorlds (same_heads sig tokens m n f.0 g.0 f.1 g.1).0
one-refusal sig tokens (TooManyWorlds n) (TooBig c) f g a b = absurd (many_big sig tokens n c f g)
one-refusal sig tokens (TooManyWorlds n) Memory f g a b = absurd (b refl)
one-refusal sig tokens (TooBig c) (Form l) f g a b = absurd (form_big sig tokens l c g f)
one-refusal sig tokens (TooBig c) (TooManyWorlds n) f g a b = absurd (many_big sig tokens n c g f)
one-refusal sig tokens (TooBig c) (TooBig d) f g a b =
    let same = same_heads sig tokens f.0 g.0 f.1 g.1 f.2 g.2 in
    ap TooBig (f.4 ∙ ap₂ (λ (n : ℕ) (sizes : List ℕ). cells_of (classical_signature_of sig) (n ∷ sizes)) same.0 same.1 ∙ sym g.4)
one-refusal sig tokens (TooBig c) Memory f g a b = absurd (b refl)
one-refusal sig tokens Memory f e g a b = absurd (a refl)

-- the head of a whole text
whole_head : (sig : Signature) (K : KripkeStructure) (tokens : List Plain) → IsOver sig K → tokens ≡ text.ktokens sig K → HasHead sig tokens K.worlds K.sizes
whole_head sig K tokens over e = record {
  K = K;
  over = over;
  worlds_are = refl;
  sizes_are = refl;
  rest = map plains (text.table_statements (text.labels_of sig) (tables_with K));
  begins = ap statements (e ∙ sym (tokens_joined sig K)) ∙ split_whole (text.kstatements sig K) (all_end sig K) ∙ map-append plains (text.head_marks sig K.worlds K.actual K.sizes) (text.table_statements (text.labels_of sig) (tables_with K));
}

pub no-refusal : NoRefusalLaw
no-refusal sig K tokens (Form k) over e few f = absurd (whole_is_good sig K tokens k over e f.0)
no-refusal sig K tokens (TooManyWorlds n) over e few f =
    let same = (same_heads sig tokens K.worlds n K.sizes f.0 (whole_head sig K tokens over e) f.1).0 in
    absurd (omega (arith, few_first sig K.worlds K.sizes few, same, f.2))
no-refusal sig K tokens (TooBig c) over e few f =
    let same = same_heads sig tokens K.worlds f.0 K.sizes f.1 (whole_head sig K tokens over e) f.2 in
    let cells : cells_of (classical_signature_of sig) (K.worlds ∷ K.sizes) ≡ c = ap₂ (λ (n : ℕ) (sizes : List ℕ). cells_of (classical_signature_of sig) (n ∷ sizes)) same.0 same.1 ∙ sym f.4 in
    absurd (omega (arith, few_second sig K.worlds K.sizes few, cells, f.5))
no-refusal sig K tokens Memory over e few f = refl
