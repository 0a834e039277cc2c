-- The head of a text, read statement by statement.
use Rattle.std.proofs.Common.{◌≡◌, ℕ, zero, suc, ◌+◌, ◌<◌, ◌≤◌, List, [], ◌∷◌, ◌++◌, map, length, get_or, refl, sym, ap, ap₂, subst, ◌∙◌, append_assoc, length-append, Result, Ok, Err, arith}
use Rattle.std.specs.Prelude.{IfErr, IsErr, IsErrAnd}
use Rattle.std.proofs.lemmas.List.{map-append}
use Rattle.nxf_tree.specs.declared.tree.Signature.{Signature}
use Rattle.nxf_tree.specs.declared.tree.SortEntry.{SortEntry}
use Rattle.nxf_tree.specs.declared.tree.SortName.{SortName}
use Rattle.nxf_tree.specs.Signature.{sort_names}
use Rattle.nxf_tree.specs.Rows.{AreSizes, size_at}
use Rattle.nxf_tree.specs.WellFormed.{HasSortsInRange}
use Rattle.fin_struct.specs.KripkeTables.{others_of}
use Rattle.plain_tokens.specs.PlainTokens.{Plain}
use Rattle.plain_tokens.specs.Marks.{Mark, plains}
use Rattle.kripke_text_definitions.specs.declared.error.KripkeTextError.{KripkeTextError}
use Rattle.kripke_text_definitions.specs.declared.error.KripkeTextError.TheVariants.{Form, TooManyWorlds, TooBig, Memory}
use Rattle.kripke_text_definitions.specs.KripkeText as text
use Rattle.kripke_text_definitions.specs.Reading.{IsFormFault}
use Rattle.kripke_text_laws.specs.steps.FirstParts.{AreFirstSizes, IsNextDomain, IsWorlds, IsLocal, NextIsNot}
use Rattle.kripke_text_laws.proofs.Faults.{fault_worlds, fault_local, fault_domain}
use Rattle.kripke_text.specs.steps.Reading.{IsDomain, IsHead, RefusesAt, HeadRefuses}

-- ---- one more sort

domains_empty : (ss : List SortName) → text.domain_statements ss [] ≡ []
domains_empty [] = refl
domains_empty (s ∷ ss) = refl

domains_more : (entries : List SortEntry) (given : List ℕ) (k : ℕ) (entry : SortEntry) (n : ℕ) → length given ≡ k → k < length entries → entry ≡ get_or entries k entry → text.domain_statements (sort_names entries) (given ++ n ∷ []) ≡ text.domain_statements (sort_names entries) given ++ text.domain_statement entry.name n ∷ []
domains_more [] given k entry n len h is = absurd (omega arith)
domains_more (e ∷ entries) [] zero entry n len h is =
    ap₂ (λ (x : SortEntry) (r : List (List Mark)). text.domain_statement x.name n ∷ r) (sym is) (domains_empty (sort_names entries))
domains_more (e ∷ entries) [] (suc k) entry n len h is = absurd (omega arith)
domains_more (e ∷ entries) (g ∷ given) zero entry n len h is = absurd (omega arith)
domains_more (e ∷ entries) (g ∷ given) (suc k) entry n len h is =
    ap (λ (r : List (List Mark)). text.domain_statement e.name g ∷ r) (domains_more entries given k entry n (omega arith) (omega arith) is)

first_more : (entries : List SortEntry) (given : List ℕ) (n : ℕ) → AreFirstSizes entries given → length given < length entries → 0 < n → AreFirstSizes entries (given ++ n ∷ [])
first_more [] [] n h k p = absurd (omega arith)
first_more [] (g ∷ given) n h k p = absurd h
first_more (e ∷ entries) [] n h k p = (p, tt)
first_more (e ∷ entries) (g ∷ given) n h k p = (h.0, first_more entries given n h.1 (omega arith) p)

all_first : (entries : List SortEntry) (given : List ℕ) → AreFirstSizes entries given → length given ≡ length entries → AreSizes entries given
all_first [] [] h k = tt
all_first [] (g ∷ given) h k = absurd h
all_first (e ∷ entries) [] h k = absurd (omega arith)
all_first (e ∷ entries) (g ∷ given) h k = (h.0, all_first entries given h.1 (omega arith))

-- the next statement is one for the next sort
is_domain : (entries : List SortEntry) (given : List ℕ) (k : ℕ) (entry : SortEntry) (s : List Plain) → length given ≡ k → k < length entries → entry ≡ get_or entries k entry → IsNextDomain entries given s → IsDomain entry.name s
is_domain [] given k entry s len h is next = absurd (omega arith)
is_domain (e ∷ entries) [] zero entry s len h is next = subst (λ (x : SortEntry). IsDomain x.name s) (sym is) next
is_domain (e ∷ entries) [] (suc k) entry s len h is next = absurd (omega arith)
is_domain (e ∷ entries) (g ∷ given) zero entry s len h is next = absurd (omega arith)
is_domain (e ∷ entries) (g ∷ given) (suc k) entry s len h is next = is_domain entries given k entry s (omega arith) (omega arith) is next

pub not_next_more : (P Q : List Plain → Type 0) (ss : List (List Plain)) → ((s : List Plain) → Q s → P s) → NextIsNot P ss → NextIsNot Q ss
not_next_more P Q [] f h = tt
not_next_more P Q (s ∷ ss) f h = λ q. h (f s q)

-- ---- the loop

-- the statements for the first k sorts are taken
pub record HeadAt (sig : Signature) (worlds actual : ℕ) (old now : List (List Plain)) (sizes : List ℕ) (k : ℕ) : Type 0 where
  pub given : List ℕ
  pub sizes_are : sizes ≡ worlds ∷ given
  pub long : length given ≡ k
  pub within : k ≤ length sig.sorts
  pub actual_in : actual < worlds
  pub first : AreFirstSizes sig.sorts given
  pub taken : old ≡ map plains (text.head_marks sig worlds actual given) ++ now

pub head_begins : (sig : Signature) (worlds actual : ℕ) (old one two : List (List Plain)) (empty sizes : List ℕ) → old ≡ plains (text.worlds_statement worlds) ∷ one → actual < worlds → one ≡ plains (text.local_statement actual) ∷ two → empty ≡ [] → sizes ≡ empty ++ worlds ∷ [] → HeadAt sig worlds actual old two sizes 0
head_begins sig worlds actual old one two empty sizes e p f none is = record {
  given = [];
  sizes_are = is ∙ ap (λ (xs : List ℕ). xs ++ worlds ∷ []) none;
  long = refl;
  within = omega arith;
  actual_in = p;
  first = tt;
  taken =
      e
      ∙ ap (λ (ss : List (List Plain)). plains (text.worlds_statement worlds) ∷ ss) f
      ∙ ap (λ (ds : List (List Mark)). plains (text.worlds_statement worlds) ∷ plains (text.local_statement actual) ∷ (map plains ds ++ two)) (sym (domains_empty (sort_names sig.sorts)));
}

pub head_next : (sig : Signature) (worlds actual : ℕ) (old now next : List (List Plain)) (sizes more : List ℕ) (k : ℕ) (entry : SortEntry) (n : ℕ) → HeadAt sig worlds actual old now sizes k → k < length sig.sorts → entry ≡ get_or sig.sorts k entry → (0 < n) × (now ≡ plains (text.domain_statement entry.name n) ∷ next) → more ≡ sizes ++ n ∷ [] → HeadAt sig worlds actual old next more (k + 1)
head_next sig worlds actual old now next sizes more k entry n at h is taken grown =
    let names = sort_names sig.sorts in
    let here = text.domain_statement entry.name n in
    record {
      given = at.given ++ n ∷ [];
      sizes_are = grown ∙ ap (λ (xs : List ℕ). xs ++ n ∷ []) at.sizes_are;
      long = omega (arith, length-append at.given (n ∷ []), at.long);
      within = omega arith;
      actual_in = at.actual_in;
      first = first_more sig.sorts at.given n at.first (omega (arith, at.long)) taken.0;
      taken =
          at.taken
          ∙ ap (λ (ss : List (List Plain)). map plains (text.head_marks sig worlds actual at.given) ++ ss) taken.1
          ∙ sym (append_assoc (map plains (text.head_marks sig worlds actual at.given)) (plains here ∷ []) next)
          ∙ ap (λ (ss : List (List Plain)). plains (text.worlds_statement worlds) ∷ plains (text.local_statement actual) ∷ (ss ++ next))
          (sym (map-append plains (text.domain_statements names at.given) (here ∷ [])) ∙ ap (map plains) (sym (domains_more sig.sorts at.given k entry n at.long h is)));
    }

pub head_done : (sig : Signature) (worlds actual : ℕ) (old now : List (List Plain)) (sizes : List ℕ) (k : ℕ) → HeadAt sig worlds actual old now sizes k → length sig.sorts ≤ k → (sizes ≡ size_at sizes 0 ∷ others_of sizes) × IsHead sig (size_at sizes 0) actual (others_of sizes) old now
head_done sig worlds actual old now sizes k at past =
    subst (λ (ss : List ℕ). (ss ≡ size_at ss 0 ∷ others_of ss) × IsHead sig (size_at ss 0) actual (others_of ss) old now) (sym at.sizes_are)
    (refl, record { actual_in = at.actual_in; sizes_are = all_first sig.sorts at.given at.first (omega (arith, at.long, at.within)); taken = at.taken })

-- ---- faults

pub worlds_refused : (sig : Signature) (ss : List (List Plain)) (e : KripkeTextError) → HasSortsInRange sig → RefusesAt 1 IsWorlds ss e → HeadRefuses sig ss e
worlds_refused sig ss (Form k) wf h = (omega (arith, h.0), λ tokens is. subst (IsFormFault sig tokens) (sym h.0) (fault_worlds sig tokens ss wf is h.1))
worlds_refused sig ss (TooManyWorlds n) wf h = absurd h
worlds_refused sig ss (TooBig c) wf h = absurd h
worlds_refused sig ss Memory wf h = tt

pub local_refused : (sig : Signature) (n : ℕ) (old ss : List (List Plain)) (e : KripkeTextError) → HasSortsInRange sig → (0 < n) × (old ≡ plains (text.worlds_statement n) ∷ ss) → RefusesAt 2 (IsLocal n) ss e → HeadRefuses sig old e
local_refused sig n old ss (Form k) wf taken h = (omega (arith, h.0), λ tokens is. subst (IsFormFault sig tokens) (sym h.0) (fault_local sig tokens n ss wf taken.0 (is ∙ taken.1) h.1))
local_refused sig n old ss (TooManyWorlds m) wf taken h = absurd h
local_refused sig n old ss (TooBig c) wf taken h = absurd h
local_refused sig n old ss Memory wf taken h = tt

pub domain_refused : (sig : Signature) (worlds actual : ℕ) (old now : List (List Plain)) (sizes : List ℕ) (k : ℕ) (entry : SortEntry) (e : KripkeTextError) → HasSortsInRange sig → HeadAt sig worlds actual old now sizes k → k < length sig.sorts → entry ≡ get_or sig.sorts k entry → RefusesAt (k + 3) (IsDomain entry.name) now e → HeadRefuses sig old e
domain_refused sig worlds actual old now sizes k entry (Form j) wf at h is refused =
    let number : 3 + length at.given ≡ j = omega (arith, refused.0, at.long) in (
      omega (arith, refused.0),
      λ tokens split. subst (IsFormFault sig tokens) number
          (fault_domain sig tokens worlds actual at.given now wf at.actual_in at.first (omega (arith, at.long)) (split ∙ at.taken)
          (not_next_more (IsDomain entry.name) (IsNextDomain sig.sorts at.given) now (λ s next. is_domain sig.sorts at.given k entry s at.long h is next) refused.1)),
    )
domain_refused sig worlds actual old now sizes k entry (TooManyWorlds n) wf at h is refused = absurd refused
domain_refused sig worlds actual old now sizes k entry (TooBig c) wf at h is refused = absurd refused
domain_refused sig worlds actual old now sizes k entry Memory wf at h is refused = tt

-- ---- an error that is passed on

pub err_passed : {T E : Type 0} → (r : Result T E) (Q P : E → Type 0) → ((y : E) → Q y → P y) → IsErr r × IsErrAnd r Q → IfErr r P
err_passed (Ok x) Q P f h = tt
err_passed (Err y) Q P f h = f y h.1
