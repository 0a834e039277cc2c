-- Tokens in front of others.
use Rattle.std.proofs.Common.{◌≡◌, ℕ, zero, suc, Bool, true, false, cond, List, [], ◌∷◌, ◌++◌, Option, None, Some, refl, sym, ap, ◌∙◌}
use Rattle.std.specs.Prelude.{nat_eq}
use Rattle.std.proofs.lemmas.Bool.{and_parts, and_from, eqb-true, eq-eqb}
use Rattle.tptp_lex.specs.declared.token.Kind.{Kind}
use Rattle.tptp_lex.specs.declared.token.Kind.TheVariants as kind
use Rattle.nxf_tree.specs.Names.{same_text}
use Rattle.name_laws.proofs.Spelling.{same_text-refl, same_text-true}
use Rattle.plain_tokens.specs.PlainTokens.{Plain}
use Rattle.kripke_text.specs.steps.Comparing.{kind_number, same_plain, strip}

abbrev kind_back : ℕ → Kind
kind_back zero = kind.Word
kind_back (suc zero) = kind.Quoted
kind_back (suc (suc zero)) = kind.Dollar
kind_back (suc (suc (suc zero))) = kind.Upper
kind_back (suc (suc (suc (suc zero)))) = kind.Number
kind_back (suc (suc (suc (suc (suc zero))))) = kind.Distinct
kind_back (suc (suc (suc (suc (suc (suc n)))))) = kind.Punct

back-kind : (k : Kind) → kind_back (kind_number k) ≡ k
back-kind kind.Word = refl
back-kind kind.Quoted = refl
back-kind kind.Dollar = refl
back-kind kind.Upper = refl
back-kind kind.Number = refl
back-kind kind.Distinct = refl
back-kind kind.Punct = refl

pub same_kinds : (k l : Kind) → nat_eq (kind_number k) (kind_number l) ≡ true → k ≡ l
same_kinds k l e = sym (back-kind k) ∙ ap kind_back (eqb-true (kind_number k) (kind_number l) e) ∙ back-kind l

made : Kind → List ℕ → Plain
made k t = record { kind = k; text = t }

pub same_plain-true : (p q : Plain) → same_plain p q ≡ true → p ≡ q
same_plain-true p q e =
    let t = and_parts (nat_eq (kind_number p.kind) (kind_number q.kind)) (same_text p.text q.text) e in
    let a = same_kinds p.kind q.kind t.0 in
    let b = same_text-true p.text q.text t.1 in
    λ i. record { kind = a i; text = b i }

pub same_plain-refl : (p : Plain) → same_plain p p ≡ true
same_plain-refl p = and_from _ _ (eq-eqb (kind_number p.kind) (kind_number p.kind) refl) (same_text-refl p.text)

pub strip-append : (ps rest : List Plain) → strip ps (ps ++ rest) ≡ Some rest
strip-append [] rest = refl
strip-append (p ∷ ps) rest = rw (same_plain-refl p) (strip-append ps rest)

strip_by : (p t : Plain) (ps ts rest : List Plain) (b : Bool) → same_plain p t ≡ b → (strip ps ts ≡ Some rest → ts ≡ ps ++ rest) → cond b (strip ps ts) None ≡ Some rest → t ∷ ts ≡ p ∷ (ps ++ rest)
strip_by p t ps ts rest true h ih e =
    let a = same_plain-true p t h in
    let b = ih e in
    cc
strip_by p t ps ts rest false h ih e = absurd cc

pub strip-some : (ps ts rest : List Plain) → strip ps ts ≡ Some rest → ts ≡ ps ++ rest
strip-some [] ts rest e = let P : ts ≡ rest = cc in P
strip-some (p ∷ ps) [] rest e = absurd cc
strip-some (p ∷ ps) (t ∷ ts) rest e = strip_by p t ps ts rest (same_plain p t) refl (strip-some ps ts rest) e

-- nothing to strip where no rest makes the tokens up
strip_none_by : (ps ts : List Plain) (o : Option (List Plain)) → strip ps ts ≡ o → ((rest : List Plain) → ts ≡ ps ++ rest → ⊥) → o ≡ None
strip_none_by ps ts None e h = refl
strip_none_by ps ts (Some rest) e h = absurd (h rest (strip-some ps ts rest e))

pub strip-none : (ps ts : List Plain) → ((rest : List Plain) → ts ≡ ps ++ rest → ⊥) → strip ps ts ≡ None
strip-none ps ts h = strip_none_by ps ts (strip ps ts) refl h

-- one list in front of another
then_by : (p t : Plain) (b : Bool) (ps qs ts : List Plain) (o : Option (List Plain)) → strip ps ts ≡ o → strip (ps ++ qs) ts ≡ elim o as (λ x. Option (List Plain)) [ None ↦ None | Some r ↦ strip qs r ] → cond b (strip (ps ++ qs) ts) None ≡ elim (cond b (strip ps ts) None) as (λ x. Option (List Plain)) [ None ↦ None | Some r ↦ strip qs r ]
then_by p t true ps qs ts o e h = rw e h
then_by p t false ps qs ts o e h = refl

pub strip_then : (ps qs ts : List Plain) → strip (ps ++ qs) ts ≡ elim (strip ps ts) as (λ x. Option (List Plain)) [ None ↦ None | Some r ↦ strip qs r ]
strip_then [] qs ts = refl
strip_then (p ∷ ps) qs [] = refl
strip_then (p ∷ ps) qs (t ∷ ts) = then_by p t (same_plain p t) ps qs ts (strip ps ts) refl (strip_then ps qs ts)
