-- What every gathered file is, one statement after another.
use Rattle.std.proofs.Common.{◌≡◌, ℕ, ◌+◌, ◌*◌, ◌≤◌, Bool, true, false, List, [], ◌∷◌, ◌++◌, Option, None, Some, Ok, refl, sym, ap, subst, arith}
use Rattle.std.specs.List.{filter, list_all}
use Rattle.std.proofs.lemmas.Bool.{and_parts, and_from}
use Rattle.nxf_tree.specs.declared.profile.Profile.TheVariants.{Problem}
use Rattle.nxf_tree.specs.declared.tree.Body.{Body}
use Rattle.nxf_tree.specs.declared.tree.Role.{Role}
use Rattle.nxf_tree.specs.declared.tree.Statement.{Statement}
use Rattle.nxf_tree.specs.declared.tree.Statement.TheVariants.{Annotated}
use Rattle.nxf_tree.specs.FileDepth.{statement_list_depth}
use Rattle.nxf_tree.specs.Weight.{statement_list_weight}
use Rattle.nxf_tree.specs.Regular.{is_regular_statement}
use Rattle.nxf_tree.specs.Profiles.{allowed_in, any_allowed, greatest_nesting, levels_of}
use Rattle.syntax_definitions.specs.Levels.{statement_list_levels}
use Rattle.syntax_definitions.specs.Gathered.{selected, unless_missing, first_missing, is_listed}
use Rattle.syntax_definitions.specs.Promises.{is_no_include, IsFine, IsFineStatement, AreReadStatements, AreFine}

-- ---- a file that is read

pub problem_depth : (d : ℕ) → d ≤ 2 * greatest_nesting Problem + 1 → d ≤ 2001
unfolding greatest_nesting
problem_depth d h = h

pub read_statements : (ss : List Statement) → list_all (is_regular_statement any_allowed) ss ≡ true → list_all (is_regular_statement (allowed_in Problem)) ss ≡ true → statement_list_depth ss ≤ 2001 → statement_list_levels ss ≤ levels_of Problem → AreReadStatements ss
read_statements [] r a d l = tt
read_statements (s ∷ ss) r a d l =
    let rs = and_parts (is_regular_statement any_allowed s) (list_all (is_regular_statement any_allowed) ss) r in
    let allowed = and_parts (is_regular_statement (allowed_in Problem) s) (list_all (is_regular_statement (allowed_in Problem)) ss) a in
    (record { regular = rs.0; allowed = allowed.0; depth = omega (arith, d); levels = omega (arith, l) }, read_statements ss rs.1 allowed.1 (omega (arith, d)) (omega (arith, l)))

-- ---- more statements

fine_both : (xs ys : List Statement) → AreFine xs → AreFine ys → AreFine (xs ++ ys)
fine_both [] ys f g = g
fine_both (x ∷ xs) ys f g = (f.0, fine_both xs ys f.1 g)

fine_kept : (p : Statement → Bool) (s : Statement) (ss : List Statement) (b : Bool) → p s ≡ b → IsFineStatement s → AreFine (filter p ss) → AreFine (filter p (s ∷ ss))
fine_kept p s ss true e f more = rw e (f, more)
fine_kept p s ss false e f more = rw e more

fine_filter : (p : Statement → Bool) (ss : List Statement) → AreFine ss → AreFine (filter p ss)
fine_filter p [] f = tt
fine_filter p (s ∷ ss) f = fine_kept p s ss (p s) refl f.0 (fine_filter p ss f.1)

weight_both : (xs ys : List Statement) → statement_list_weight (xs ++ ys) ≡ statement_list_weight xs + statement_list_weight ys
weight_both [] ys = omega arith
weight_both (x ∷ xs) ys = omega (arith, weight_both xs ys)

weight_kept : (p : Statement → Bool) (s : Statement) (ss : List Statement) (b : Bool) → p s ≡ b → statement_list_weight (filter p ss) ≤ statement_list_weight ss → statement_list_weight (filter p (s ∷ ss)) ≤ statement_list_weight (s ∷ ss)
weight_kept p s ss true e more = rw e (omega (arith, more))
weight_kept p s ss false e more = rw e (omega (arith, more))

weight_filter : (p : Statement → Bool) (ss : List Statement) → statement_list_weight (filter p ss) ≤ statement_list_weight ss
weight_filter p [] = omega arith
weight_filter p (s ∷ ss) = weight_kept p s ss (p s) refl (weight_filter p ss)

-- an annotated statement is added, which was the next
pub annotated_fine : (done now all rest : List Statement) (name : List ℕ) (role : Role) (body : Body) → now ≡ done ++ Annotated name role body ∷ [] → all ≡ Annotated name role body ∷ rest → AreFine done → AreReadStatements all → AreFine now
annotated_fine done now all rest name role body e a f r =
    let rs : AreReadStatements (Annotated name role body ∷ rest) = subst AreReadStatements a r in
    subst AreFine (sym e) (fine_both done (Annotated name role body ∷ []) f (record { read = rs.0; no_include = refl }, tt))

pub rest_read : (all rest : List Statement) (s : Statement) → all ≡ s ∷ rest → AreReadStatements all → AreReadStatements rest
rest_read all rest s a r = (subst AreReadStatements a r).1

pub annotated_weight : (base sum : ℕ) (done now all rest : List Statement) (s : Statement) → now ≡ done ++ s ∷ [] → all ≡ s ∷ rest → base + statement_list_weight done + statement_list_weight all ≤ sum → base + statement_list_weight now + statement_list_weight rest ≤ sum
annotated_weight base sum done now all rest s e a h = omega (arith, h, ap statement_list_weight e, ap statement_list_weight a, weight_both done (s ∷ []))

-- ---- what an include brings

kept_from : (file : List ℕ) (missing : Option (List ℕ)) (ss kept : List Statement) → unless_missing file missing ss ≡ Ok kept → kept ≡ ss
kept_from file None ss kept h = cc
kept_from file (Some name) ss kept h = absurd (cc)

kept_fine : (file : List ℕ) (names : Option (List (List ℕ))) (ss kept : List Statement) → selected file names ss ≡ Ok kept → AreFine ss → AreFine kept
kept_fine file None ss kept h f = let e : kept ≡ ss = cc in subst AreFine (sym e) f
kept_fine file (Some names) ss kept h f = subst AreFine (sym (kept_from file (first_missing names ss) _ kept h)) (fine_filter (is_listed names) ss f)

kept_weight : (file : List ℕ) (names : Option (List (List ℕ))) (ss kept : List Statement) → selected file names ss ≡ Ok kept → statement_list_weight kept ≤ statement_list_weight ss
kept_weight file None ss kept h = let e : kept ≡ ss = cc in omega (arith, ap statement_list_weight e)
kept_weight file (Some names) ss kept h = omega (arith, ap statement_list_weight (kept_from file (first_missing names ss) (filter (is_listed names) ss) kept h), weight_filter (is_listed names) ss)

pub included_fine : (file : List ℕ) (names : Option (List (List ℕ))) (part done now kept : List Statement) → selected file names part ≡ Ok kept → now ≡ done ++ kept → AreFine done → AreFine part → AreFine now
included_fine file names part done now kept k e f g = subst AreFine (sym e) (fine_both done kept f (kept_fine file names part kept k g))

pub included_weight : (file : List ℕ) (names : Option (List (List ℕ))) (base sum next : ℕ) (part done now kept all rest : List Statement) (s : Statement) → selected file names part ≡ Ok kept → now ≡ done ++ kept → all ≡ s ∷ rest → sum + statement_list_weight part ≤ next → base + statement_list_weight done + statement_list_weight all ≤ sum → base + statement_list_weight now + statement_list_weight rest ≤ next
included_weight file names base sum next part done now kept all rest s k e a p h =
    omega (arith, kept_weight file names part kept k, p, h, ap statement_list_weight e, ap statement_list_weight a, weight_both done kept)

-- ---- the whole file

record AllFine (ss : List Statement) : Type 0 where
  regular : list_all (is_regular_statement any_allowed) ss ≡ true
  allowed : list_all (is_regular_statement (allowed_in Problem)) ss ≡ true
  no_include : list_all is_no_include ss ≡ true
  depth : statement_list_depth ss ≤ 2001
  levels : statement_list_levels ss ≤ levels_of Problem

fine_statements : (ss : List Statement) → AreFine ss → AllFine ss
fine_statements [] f = record { regular = refl; allowed = refl; no_include = refl; depth = omega arith; levels = omega arith }
fine_statements (s ∷ ss) f =
    let more = fine_statements ss f.1 in
    record {
      regular = and_from (is_regular_statement any_allowed s) (list_all (is_regular_statement any_allowed) ss) f.0.read.regular more.regular;
      allowed = and_from (is_regular_statement (allowed_in Problem) s) (list_all (is_regular_statement (allowed_in Problem)) ss) f.0.read.allowed more.allowed;
      no_include = and_from (is_no_include s) (list_all is_no_include ss) f.0.no_include more.no_include;
      depth = omega (arith, f.0.read.depth, more.depth);
      levels = omega (arith, f.0.read.levels, more.levels);
    }

pub whole_fine : (ss : List Statement) → AreFine ss → statement_list_weight ss ≤ 67108864 → IsFine (record { statements = ss })
whole_fine ss f w =
    let all = fine_statements ss f in
    record { regular = all.regular; allowed = all.allowed; no_include = all.no_include; depth = all.depth; levels = all.levels; weight = w }
