-- Texts that are cut.
use Rattle.std.proofs.Common.{◌≡◌, ℕ, suc, ◌<◌, ◌≤◌, Bool, true, false, cond, List, [], ◌∷◌, ◌++◌, map, length, refl, sym, ap, subst, ◌∙◌, append_assoc, length-append, arith, inl, inr}
use Rattle.std.specs.Prelude.{not}
use Rattle.std.specs.List.{list_all}
use Rattle.std.proofs.lemmas.Bool.{and_parts, and_from, cases_lt, true≢false}
use Rattle.std.proofs.lemmas.List.{map-append}
use Rattle.nxf_tree.specs.declared.tree.Signature.{Signature}
use Rattle.nxf_tree.specs.Structures.{KripkeStructure, IsOver, tables_with}
use Rattle.plain_tokens.specs.PlainTokens.{Plain}
use Rattle.plain_tokens.specs.Marks.{plains}
use Rattle.kripke_text_definitions.specs.TokenStatements.{is_stop, in_first, statements}
use Rattle.kripke_text_definitions.specs.KripkeText as text
use Rattle.kripke_text_definitions.specs.Reading.{Faults, IsFormFault, HasHead, AreFew, head_length}
use Rattle.kripke_text_laws.specs.KripkeTextLaws.{whole_count, CutLaw}
use Rattle.kripke_text_laws.proofs.Splits.{joined, is_none, ends_at_stop, split_all}
use Rattle.kripke_text_laws.proofs.Whole.{all_end, tokens_joined, statements_are}
use Rattle.kripke_text_laws.proofs.Equal.{head_same, domains_long}

-- nothing in the tokens is a full stop
abbrev pub is_open : List Plain → Bool
is_open = list_all (λ p. not (is_stop p))

-- ---- lists in front of others

pub prefix_of : {A : Type 0} → (xs ys us vs : List A) → xs ++ ys ≡ us ++ vs → length xs ≤ length us → (more : List A) × (us ≡ xs ++ more) × (ys ≡ more ++ vs)
prefix_of [] ys us vs e h = (us, refl, e)
prefix_of (x ∷ xs) ys [] vs e h = absurd (omega arith)
prefix_of (x ∷ xs) ys (u ∷ us) vs e h =
    let a : u ≡ x = cc in
    let b : xs ++ ys ≡ us ++ vs = cc in
    let t = prefix_of xs ys us vs b (omega arith) in
    let c = t.1 in
    (t.0, (λ i. a i ∷ c i), t.2)

none_left : {A : Type 0} → (xs ys : List A) → [] ≡ xs ++ ys → ys ≡ []
none_left [] ys e = sym e
none_left (x ∷ xs) ys e = absurd cc

-- ---- the parts of a cut list

open_by : (p m : Plain) (ps ms : List Plain) (t : Bool) → cond t (is_none (ps ++ m ∷ ms)) (ends_at_stop (ps ++ m ∷ ms)) ≡ true → (ends_at_stop (ps ++ m ∷ ms) ≡ true → is_open ps ≡ true) → (not t ≡ true) × (is_open ps ≡ true)
open_by p m [] ms true h ih = absurd cc
open_by p m (q ∷ ps) ms true h ih = absurd cc
open_by p m ps ms false h ih = (refl, ih h)

-- what stands before the end of a statement
open_front : (front : List Plain) (m : Plain) (ms : List Plain) → ends_at_stop (front ++ m ∷ ms) ≡ true → is_open front ≡ true
open_front [] m ms h = refl
open_front (p ∷ ps) m ms h =
    let t = open_by p m ps ms (is_stop p) h (open_front ps m ms) in
    and_from (not (is_stop p)) (is_open ps) t.0 t.1

record Cut (ss : List (List Plain)) (front : List Plain) : Type 0 where
  pub whole : List (List Plain)
  pub rest : List (List Plain)
  pub part : List Plain
  pub parts : ss ≡ whole ++ rest
  pub some : 0 < length rest
  pub front_is : front ≡ joined whole ++ part
  pub unended : is_open part ≡ true
  pub ends : list_all ends_at_stop whole ≡ true

cut_within : (s more front : List Plain) (ss : List (List Plain)) → s ≡ front ++ more → length front < length s → ends_at_stop s ≡ true → Cut (s ∷ ss) front
cut_within s [] front ss e h k = absurd (omega (arith, ap length e, length-append front []))
cut_within s (m ∷ more) front ss e h k = record {
  whole = [];
  rest = s ∷ ss;
  part = front;
  parts = refl;
  some = omega arith;
  front_is = refl;
  unended = open_front front m more (ap ends_at_stop (sym e) ∙ k);
  ends = refl;
}

cut_at : (ss : List (List Plain)) (front back : List Plain) → list_all ends_at_stop ss ≡ true → joined ss ≡ front ++ back → (back ≡ [] → ⊥) → Cut ss front
cut_at [] front back h e n = absurd (n (none_left front back e))
cut_at (s ∷ ss) front back h e n =
    let t = and_parts (ends_at_stop s) (list_all ends_at_stop ss) h in
    elim (cases_lt (length front) (length s)) [
      | inl less ↦
          let p = prefix_of front back s (joined ss) (sym e) (omega arith) in
          cut_within s p.0 front ss p.1 less t.0
      | inr more ↦
          let p = prefix_of s (joined ss) front back e more in
          let c = cut_at ss p.0 back t.1 p.2 n in
          record {
            whole = s ∷ c.whole;
            rest = c.rest;
            part = c.part;
            parts = ap (λ (r : List (List Plain)). s ∷ r) c.parts;
            some = c.some;
            front_is = p.1 ∙ ap (λ (r : List Plain). s ++ r) c.front_is ∙ sym (append_assoc s (joined c.whole) c.part);
            unended = c.unended;
            ends = and_from (ends_at_stop s) (list_all ends_at_stop c.whole) t.0 c.ends;
          }
    ]

-- ---- how many statements stand whole

count_by : (p : Plain) (ps rest : List Plain) (t : Bool) → cond t (is_none ps) (ends_at_stop ps) ≡ true → (ends_at_stop ps ≡ true → whole_count (ps ++ rest) ≡ suc (whole_count rest)) → cond t (suc (whole_count (ps ++ rest))) (whole_count (ps ++ rest)) ≡ suc (whole_count rest)
count_by p [] rest true h ih = refl
count_by p (q ∷ ps) rest true h ih = absurd cc
count_by p ps rest false h ih = ih h

count_first : (s rest : List Plain) → ends_at_stop s ≡ true → whole_count (s ++ rest) ≡ suc (whole_count rest)
count_first [] rest h = absurd cc
count_first (p ∷ ps) rest h = count_by p ps rest (is_stop p) h (count_first ps rest)

count_open_by : (p : Plain) (ps : List Plain) (t : Bool) → not t ≡ true → whole_count ps ≡ 0 → cond t (suc (whole_count ps)) (whole_count ps) ≡ 0
count_open_by p ps true h k = absurd cc
count_open_by p ps false h k = k

count_open : (ps : List Plain) → is_open ps ≡ true → whole_count ps ≡ 0
count_open [] h = refl
count_open (p ∷ ps) h =
    let t = and_parts (not (is_stop p)) (is_open ps) h in
    count_open_by p ps (is_stop p) t.0 (count_open ps t.1)

count_whole : (ss : List (List Plain)) (part : List Plain) → list_all ends_at_stop ss ≡ true → is_open part ≡ true → whole_count (joined ss ++ part) ≡ length ss
count_whole [] part h k = count_open part k
count_whole (s ∷ ss) part h k =
    let t = and_parts (ends_at_stop s) (list_all ends_at_stop ss) h in
    ap whole_count (append_assoc s (joined ss) part) ∙ count_first s (joined ss ++ part) t.0 ∙ ap suc (count_whole ss part t.1 k)

-- ---- the statements of what is left

abbrev rest_of : List Plain → List (List Plain)
rest_of [] = []
rest_of (p ∷ ps) = (p ∷ ps) ∷ []

open_split_by : (p : Plain) (ps : List Plain) (t : Bool) → not t ≡ true → statements ps ≡ rest_of ps → cond t ((p ∷ []) ∷ statements ps) (in_first p (statements ps)) ≡ (p ∷ ps) ∷ []
open_split_by p ps true h e = absurd cc
open_split_by p [] false h e = ap (in_first p) e
open_split_by p (q ∷ ps) false h e = ap (in_first p) e

open_split : (ps : List Plain) → is_open ps ≡ true → statements ps ≡ rest_of ps
open_split [] h = refl
open_split (p ∷ ps) h =
    let t = and_parts (not (is_stop p)) (is_open ps) h in
    open_split_by p ps (is_stop p) t.0 (open_split ps t.1)

open_end_by : (p : Plain) (ps : List Plain) (t : Bool) → not t ≡ true → ends_at_stop ps ≡ false → cond t (is_none ps) (ends_at_stop ps) ≡ false
open_end_by p ps true h k = absurd cc
open_end_by p ps false h k = k

open_end : (ps : List Plain) → is_open ps ≡ true → ends_at_stop ps ≡ false
open_end [] h = refl
open_end (p ∷ ps) h =
    let t = and_parts (not (is_stop p)) (is_open ps) h in
    open_end_by p ps (is_stop p) t.0 (open_end ps t.1)

-- ---- the fault

last_ends : (xs : List (List Plain)) (s : List Plain) (after : List (List Plain)) → list_all ends_at_stop ((xs ++ s ∷ []) ++ after) ≡ true → ends_at_stop s ≡ true
last_ends [] s after h = (and_parts (ends_at_stop s) (list_all ends_at_stop after) h).0
last_ends (x ∷ xs) s after h = last_ends xs s after (and_parts (ends_at_stop x) (list_all ends_at_stop ((xs ++ s ∷ []) ++ after)) h).1

cut_faults : (sig : Signature) (K : KripkeStructure) (whole rest : List (List Plain)) (part : List Plain) → IsOver sig K → text.kstatements sig K ≡ whole ++ rest → 0 < length rest → is_open part ≡ true → Faults sig whole (rest_of part)
cut_faults sig K whole rest [] over e some h = λ w.
    let mine = ap length e in
    let theirs = ap length w.whole in
    absurd (omega (arith, mine, theirs, statements_are sig K over, statements_are sig w.K w.over, length-append whole rest))
cut_faults sig K whole rest (p ∷ ps) over e some h = λ b.
    absurd (true≢false (sym (last_ends whole (p ∷ ps) b.after (ap (list_all ends_at_stop) (sym b.begins) ∙ all_end sig b.K)) ∙ open_end (p ∷ ps) h))

whole_is : (ss : List (List Plain)) (front : List Plain) → (c : Cut ss front) → whole_count front ≡ length c.whole
whole_is ss front c = ap whole_count c.front_is ∙ count_whole c.whole c.part c.ends c.unended

parts_are : (ss : List (List Plain)) (front : List Plain) → (c : Cut ss front) → statements front ≡ c.whole ++ rest_of c.part
parts_are ss front c = ap statements c.front_is ∙ split_all c.whole c.part c.ends ∙ ap (λ (r : List (List Plain)). c.whole ++ r) (open_split c.part c.unended)

cut_fault : (sig : Signature) (K : KripkeStructure) (front : List Plain) → IsOver sig K → (c : Cut (text.kstatements sig K) front) → IsFormFault sig front (suc (whole_count front))
cut_fault sig K front over c = record {
  before = c.whole;
  rest = rest_of c.part;
  parts = parts_are (text.kstatements sig K) front c;
  number = ap suc (whole_is (text.kstatements sig K) front c);
  begins = record { K = K; over = over; after = c.rest; begins = c.parts };
  fault = cut_faults sig K c.whole c.rest c.part over c.parts c.some c.unended;
}

head_long : (sig : Signature) (K : KripkeStructure) → IsOver sig K → length (map plains (text.head_marks sig K.worlds K.actual K.sizes)) ≡ head_length sig
head_long sig K over = omega (arith, domains_long sig.sorts K.sizes over.sizes)

-- where the head is whole, it is that of the structure
same_head : (sig : Signature) (K : KripkeStructure) (front : List Plain) (worlds : ℕ) (sizes : List ℕ) → IsOver sig K → (c : Cut (text.kstatements sig K) front) → head_length sig ≤ whole_count front → HasHead sig front worlds sizes → (K.worlds ≡ worlds) × (K.sizes ≡ sizes)
same_head sig K front worlds sizes over c long h =
    let head = map plains (text.head_marks sig K.worlds K.actual K.sizes) in
    let tables = map plains (text.table_statements (text.labels_of sig) (tables_with K)) in
    let within : length head ≤ length c.whole = omega (arith, head_long sig K over, whole_is (text.kstatements sig K) front c) in
    let p = prefix_of head tables c.whole c.rest (sym (map-append plains (text.head_marks sig K.worlds K.actual K.sizes) (text.table_statements (text.labels_of sig) (tables_with K))) ∙ c.parts) within in
    let behind = p.0 ++ rest_of c.part in
    let s = head_same sig K h.K behind h.rest over h.over (sym (append_assoc head p.0 (rest_of c.part)) ∙ ap (λ (r : List (List Plain)). r ++ rest_of c.part) (sym p.1) ∙ sym (parts_are (text.kstatements sig K) front c) ∙ h.begins) in
    (s.worlds ∙ h.worlds_are, s.sizes ∙ h.sizes_are)

few_same : (sig : Signature) (m n : ℕ) (sizes others : List ℕ) → m ≡ n → sizes ≡ others → AreFew sig m sizes → AreFew sig n others
few_same sig m n sizes others a b h = subst (λ (k : ℕ). AreFew sig k others) a (subst (λ (s : List ℕ). AreFew sig m s) b h)

pub cut-law : CutLaw
cut-law sig K front back over e n few =
    let c = cut_at (text.kstatements sig K) front back (all_end sig K) (tokens_joined sig K ∙ e) n in (
      cut_fault sig K front over c,
      λ behind worlds sizes h.
          let long : head_length sig ≤ whole_count front = omega arith in
          let s = same_head sig K front worlds sizes over c long h in
          few_same sig K.worlds worlds K.sizes sizes s.0 s.1 (few long),
    )
