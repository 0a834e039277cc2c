-- Files that are read are regular, no deeper than their profile allows, and no heavier than their tokens.
use Rattle.std.proofs.Common.{◌≡◌, ℕ, suc, ◌+◌, ◌*◌, ◌≤◌, Bool, true, false, List, [], ◌∷◌, length, Result, Ok, Err, refl, ap, ◌∙◌, arith}
use Rattle.std.specs.Prelude.{IfOk}
use Rattle.std.specs.List.{AllByRecursion, list_all}
use Rattle.std.proofs.lemmas.Bool.{and_from}
use Rattle.std.proofs.lemmas.List.{length-map}
use Rattle.tptp_lex.specs.declared.token.Token.{Token}
use Rattle.tptp_lex.specs.Lexing.{Lexes}
use Rattle.tptp_lex.proofs.CallerLemmas.{all_spelled}
use Rattle.nxf_terminals.specs.declared.sign.Sign.TheVariants as sign
use Rattle.nxf_tree.specs.declared.profile.Profile.{Profile}
use Rattle.nxf_tree.specs.declared.profile.Profile.TheVariants as profiles
use Rattle.nxf_terminals.specs.Signs.{same_sign}
use Rattle.nxf_terminals.specs.Input.{Item, Input, input_of, item_of}
use Rattle.nxf_tree.specs.Profiles.{Allowed}
use Rattle.nxf_terminals.specs.Spelled.{IsSpelled}
use Rattle.nxf_terminals.proofs.CallerLemmas.{Permits, items_spelled}
use Rattle.nxf_tree.specs.declared.tree.Statement.{Statement}
use Rattle.nxf_tree.specs.declared.tree.File.{File}
use Rattle.nxf_tree.specs.FileDepth.{statement_list_depth, file_depth}
use Rattle.nxf_tree.specs.Weight.{statement_list_weight, file_weight}
use Rattle.nxf_tree.specs.Regular.{is_regular_statement, IsRegular}
use Rattle.reading_laws.proofs.FineStatements.{statement_fine}
use Rattle.syntax_definitions.specs.Files.{before, statement_parts, AreRead, no_more, one_more}
use Rattle.nxf_tree.specs.Profiles.{most_arguments, greatest_nesting, levels_of, has_includes, allowed_in, any_allowed}
use Rattle.syntax_definitions.specs.Spells.{TokensSpell}

-- ---- parts

-- how many tokens the parts have
abbrev total : List Input → ℕ
total [] = 0
total (p ∷ ps) = length p + total ps

before_total : (x : Item) (ps : List Input) → total (before x ps) ≡ suc (total ps)
before_total x [] = refl
before_total x (p ∷ ps) = omega arith

parts_by : (x : Item) (xs : Input) (b : Bool) → same_sign x.0 sign.Stop ≡ b → total (statement_parts xs) ≡ length xs → total (statement_parts (x ∷ xs)) ≡ suc (length xs)
parts_by x xs true e more = rw e (omega (arith, more))
parts_by x xs false e more = rw e (before_total x (statement_parts xs) ∙ ap suc more)

parts_total : (xs : Input) → total (statement_parts xs) ≡ length xs
parts_total [] = refl
parts_total (x ∷ xs) = parts_by x xs (same_sign x.0 sign.Stop) refl (parts_total xs)

module _ (Q : Item → Type 0) where
  before_all : (x : Item) (ps : List Input) → Q x → AllByRecursion (AllByRecursion Q) ps → AllByRecursion (AllByRecursion Q) (before x ps)
  before_all x [] q qs = ((q, tt), tt)
  before_all x (p ∷ ps) q qs = ((q, qs.0), qs.1)

  parts_all_by : (x : Item) (xs : Input) (b : Bool) → same_sign x.0 sign.Stop ≡ b → Q x → AllByRecursion (AllByRecursion Q) (statement_parts xs) → AllByRecursion (AllByRecursion Q) (statement_parts (x ∷ xs))
  parts_all_by x xs true e q qs = rw e ((q, tt), qs)
  parts_all_by x xs false e q qs = rw e (before_all x (statement_parts xs) q qs)

  parts_all : (xs : Input) → AllByRecursion Q xs → AllByRecursion (AllByRecursion Q) (statement_parts xs)
  parts_all [] q = tt
  parts_all (x ∷ xs) q = parts_all_by x xs (same_sign x.0 sign.Stop) refl q.0 (parts_all xs q.1)

-- ---- files

record FineFile (depth bound weight most : ℕ) (regular : Bool) : Type 0 where
  shallow : depth ≤ bound
  light : weight ≤ most
  is_regular : regular ≡ true

read_fine : (l : Allowed) (most : ℕ) → most ≤ l.arguments → 1 ≤ most → {w : Bool} {n : ℕ} {ps : List Input} {ss : List Statement} → (w ≡ true → l.modal ≡ true) → AreRead w most n ps ss → AllByRecursion (AllByRecursion (IsSpelled l)) ps → FineFile (statement_list_depth ss) (n + n + 3) (statement_list_weight ss) (total ps) (list_all (is_regular_statement l) ss)
read_fine l most enough one modal no_more q = record { shallow = omega arith; light = omega arith; is_regular = refl }
read_fine l most enough one modal (one_more {s = s} {ss = ss} d ds) q =
    let r = statement_fine l most enough d one modal q.0 in
    let rs = read_fine l most enough one modal ds q.1 in
    record {
      shallow = omega (arith, r.shallow, rs.shallow);
      light = omega (arith, r.light, rs.light);
      is_regular = and_from (is_regular_statement l s) (list_all (is_regular_statement l) ss) r.is_regular rs.is_regular;
    }

-- ---- profiles

some_argument : (p : Profile) → 1 ≤ most_arguments p
unfolding most_arguments
some_argument profiles.Problem = omega arith
some_argument profiles.Classical = omega arith
some_argument profiles.Interpretation = omega arith

few_arguments : (p : Profile) → most_arguments p ≤ 1001
unfolding most_arguments
few_arguments profiles.Problem = omega arith
few_arguments profiles.Classical = omega arith
few_arguments profiles.Interpretation = omega arith

some_nesting : (p : Profile) → 1 ≤ greatest_nesting p
unfolding greatest_nesting
some_nesting profiles.Problem = omega arith
some_nesting profiles.Classical = omega arith
some_nesting profiles.Interpretation = omega arith

permits_profile : (p : Profile) → Permits p (allowed_in p)
permits_profile profiles.Problem = refl
permits_profile profiles.Classical = tt
permits_profile profiles.Interpretation = refl

permits_any : (p : Profile) → Permits p any_allowed
permits_any profiles.Problem = refl
permits_any profiles.Classical = tt
permits_any profiles.Interpretation = refl

includes_modal : (p : Profile) → has_includes p ≡ true → (allowed_in p).modal ≡ true
includes_modal profiles.Problem e = refl
includes_modal profiles.Classical e = absurd cc
includes_modal profiles.Interpretation e = absurd cc

module _ (p : Profile) (bytes : List ℕ) (tokens : List Token) (lexed : Lexes bytes tokens) (f : File) (read : TokensSpell p bytes tokens f) where
  spelled : (l : Allowed) → Permits p l → AllByRecursion (AllByRecursion (IsSpelled l)) (statement_parts (input_of p bytes tokens))
  spelled l permits = parts_all (IsSpelled l) (input_of p bytes tokens) (items_spelled p l bytes tokens permits (all_spelled bytes tokens lexed))

  fine_here : FineFile (file_depth f) (levels_of p + levels_of p + 3) (file_weight f) (total (statement_parts (input_of p bytes tokens))) (list_all (is_regular_statement (allowed_in p)) f.statements)
  fine_here = read_fine (allowed_in p) (most_arguments p) (omega arith) (some_argument p) (includes_modal p) read (spelled (allowed_in p) (permits_profile p))

  pub regular_here : IsRegular (allowed_in p) f
  regular_here = fine_here.is_regular

  pub regular_any : IsRegular any_allowed f
  regular_any = (read_fine any_allowed (most_arguments p) (few_arguments p) (some_argument p) (λ e. refl) read (spelled any_allowed (permits_any p))).is_regular

  pub shallow_here : file_depth f ≤ 2 * greatest_nesting p + 1
  shallow_here = omega (arith, fine_here.shallow, some_nesting p)

  pub light_here : file_weight f ≤ length tokens
  light_here =
      let inputs : length (input_of p bytes tokens) ≡ length tokens = length-map tokens (item_of p bytes) in
      omega (arith, fine_here.light, parts_total (input_of p bytes tokens), inputs)

-- what a call that reads a file ensures of it
module _ (p : Profile) (bytes : List ℕ) (tokens : List Token) (lexed : Lexes bytes tokens) where
  pub all_regular_here : {E : Type 0} (result : Result File E) → IfOk result (λ f. TokensSpell p bytes tokens f) → IfOk result (λ f. IsRegular (allowed_in p) f)
  all_regular_here (Ok f) read = regular_here p bytes tokens lexed f read
  all_regular_here (Err e) read = tt

  pub all_regular_any : {E : Type 0} (result : Result File E) → IfOk result (λ f. TokensSpell p bytes tokens f) → IfOk result (λ f. IsRegular any_allowed f)
  all_regular_any (Ok f) read = regular_any p bytes tokens lexed f read
  all_regular_any (Err e) read = tt

  pub all_shallow : {E : Type 0} (result : Result File E) → IfOk result (λ f. TokensSpell p bytes tokens f) → IfOk result (λ f. file_depth f ≤ 2 * greatest_nesting p + 1)
  all_shallow (Ok f) read = shallow_here p bytes tokens lexed f read
  all_shallow (Err e) read = tt

  pub all_light : {E : Type 0} (result : Result File E) → IfOk result (λ f. TokensSpell p bytes tokens f) → IfOk result (λ f. file_weight f ≤ length tokens)
  all_light (Ok f) read = light_here p bytes tokens lexed f read
  all_light (Err e) read = tt
