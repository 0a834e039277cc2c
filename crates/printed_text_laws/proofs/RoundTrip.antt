-- The text of a regular file spells the file and no other, where the profile has levels enough.
use Rattle.std.proofs.Common.{◌≡◌, ℕ, suc, ◌-◌, ◌≤◌, Bool, true, false, List, [], ◌∷◌, ◌++◌, refl, sym, subst, ◌∙◌, arith, append_assoc}
use Rattle.std.specs.Prelude.{codes, flat_map, IsTrue}
use Rattle.std.specs.List.{list_all}
use Rattle.std.proofs.lemmas.Bool.{and_parts, and_from, true≢false}
use Rattle.nxf_tree.specs.declared.profile.Profile.{Profile}
use Rattle.nxf_tree.specs.declared.profile.Profile.TheVariants as profiles
use Rattle.nxf_terminals.specs.Input.{Input}
use Rattle.nxf_tree.specs.Profiles.{Allowed}
use Rattle.nxf_base.specs.Bytes.{is_printable_text}
use Rattle.nxf_tree.specs.declared.tree.Role.{Role}
use Rattle.nxf_tree.specs.declared.tree.Body.{Body}
use Rattle.nxf_tree.specs.declared.tree.Statement.{Statement}
use Rattle.nxf_tree.specs.declared.tree.Statement.TheVariants as statement
use Rattle.nxf_tree.specs.declared.tree.File.{File}
use Rattle.nxf_tree.specs.declared.tree.Body.TheVariants as body
use Rattle.nxf_tree.specs.Text.{has_text, is_printable, statement_text, text_of}
use Rattle.nxf_tree.specs.Regular.{body_kind}
use Rattle.nxf_tree.specs.Regular.{is_regular_role, is_body_of, is_regular_statement, IsRegular}
use Rattle.syntax_definitions.specs.Files.{statement_parts, AreRead, no_more, one_more}
use Rattle.nxf_tree.specs.Profiles.{has_includes, has_modalities, most_arguments, greatest_nesting, levels_of, allowed_in}
use Rattle.syntax_definitions.specs.Levels.{statement_list_levels, file_levels}
use Rattle.syntax_definitions.specs.Spells.{Spells}
use Rattle.grammar_laws.proofs.ExactFiles.{one_file_spelled}
use Rattle.printed_text_laws.proofs.LexedAs.{IsLexedAs, nothing_lexed, spelled}
use Rattle.printed_text_laws.proofs.Literals.{end_more, end_split}
use Rattle.printed_text_laws.proofs.Items.{statement_items, ended, file_items}
use Rattle.printed_text_laws.proofs.TextItems.{Fits, front_text, front_writes}
use Rattle.printed_text_laws.proofs.ReadStatementItems.{statement_reads}

-- the end of a statement, before what follows it
ended_text : (front rest : List ℕ) → front ++ (codes ")." ++ 10 ∷ rest) ≡ front ++ codes ")." ++ 10 ∷ [] ++ rest
ended_text front rest = sym (append_assoc (front ++ codes ").") (10 ∷ []) rest ∙ append_assoc front (codes ").") (10 ∷ rest))

module _ (p : Profile) (l : Allowed) (fits : Fits p l) where
  file_lexed : (ss : List Statement) → list_all (is_regular_statement l) ss ≡ true → IsLexedAs p (flat_map statement_text ss) (file_items ss)
  file_lexed [] h = nothing_lexed p
  file_lexed (statement.Annotated name role b ∷ ss) h =
      let u = and_parts (is_regular_statement l (statement.Annotated name role b)) (list_all (is_regular_statement l) ss) h in
      let rest = flat_map statement_text ss in
      subst (λ (x : List ℕ). IsLexedAs p x (file_items (statement.Annotated name role b ∷ ss))) (ended_text (front_text name role b) rest)
      ((front_writes p l fits name role b u.0).lexed (codes ")." ++ 10 ∷ rest) (ended (file_items ss)) refl (end_more p rest (file_items ss) (file_lexed ss u.1)))
  file_lexed (statement.Include file names ∷ ss) h =
      let u = and_parts (is_regular_statement l (statement.Include file names)) (list_all (is_regular_statement l) ss) h in
      absurd (true≢false (sym (and_parts l.modal _ u.0).0 ∙ fits.no_modal))

  first_part : (name : List ℕ) (role : Role) (b : Body) (ss : List Statement) → is_regular_statement l (statement.Annotated name role b) ≡ true → statement_parts (file_items (statement.Annotated name role b ∷ ss)) ≡ statement_items (statement.Annotated name role b) (ended []) ∷ statement_parts (file_items ss)
  first_part name role b ss h = (front_writes p l fits name role b h).splits (ended (file_items ss)) (ended []) (statement_parts (file_items ss)) (end_split p (file_items ss))

  file_read : (w : Bool) (n : ℕ) (ss : List Statement) → list_all (is_regular_statement l) ss ≡ true → statement_list_levels ss ≤ suc n → AreRead w l.arguments (suc n) (statement_parts (file_items ss)) ss
  file_read w n [] h low = no_more
  file_read w n (statement.Annotated name role b ∷ ss) h low =
      let u = and_parts (is_regular_statement l (statement.Annotated name role b)) (list_all (is_regular_statement l) ss) h in
      subst (λ (ps : List Input). AreRead w l.arguments (suc n) ps (statement.Annotated name role b ∷ ss)) (sym (first_part name role b ss u.0))
      (one_more (statement_reads l fits.no_modal w n name role b u.0 (omega (arith, low))) (file_read w n ss u.1 (omega (arith, low))))
  file_read w n (statement.Include file names ∷ ss) h low =
      let u = and_parts (is_regular_statement l (statement.Include file names)) (list_all (is_regular_statement l) ss) h in
      absurd (true≢false (sym (and_parts l.modal _ u.0).0 ∙ fits.no_modal))

some_levels : (p : Profile) → 1 ≤ levels_of p
unfolding greatest_nesting
some_levels profiles.Problem = omega arith
some_levels profiles.Classical = omega arith
some_levels profiles.Interpretation = omega arith

fits_profile : (p : Profile) → has_modalities p ≡ false → Fits p (allowed_in p)
fits_profile p none = record { no_modal = none; distinct = λ e. e }

read_at : (p : Profile) (f : File) (n : ℕ) → has_modalities p ≡ false → IsRegular (allowed_in p) f → levels_of p ≡ suc n → file_levels f ≤ suc n → AreRead (has_includes p) (most_arguments p) (levels_of p) (statement_parts (file_items f.statements)) f.statements
read_at p f n none h e low = subst (λ (k : ℕ). AreRead (has_includes p) (most_arguments p) k (statement_parts (file_items f.statements)) f.statements) (sym e) (file_read p (allowed_in p) (fits_profile p none) (has_includes p) n f.statements h low)

pub regular_file_spelled : (p : Profile) (f : File) → has_modalities p ≡ false → IsRegular (allowed_in p) f → file_levels f ≤ levels_of p → Spells p (text_of f) f
regular_file_spelled p f none h low =
    let e : levels_of p ≡ suc (levels_of p - 1) = omega (arith, some_levels p) in
    spelled p (text_of f) (file_items f.statements) f (file_lexed p (allowed_in p) (fits_profile p none) f.statements h) (read_at p f (levels_of p - 1) none h e (omega (arith, low, e)))

-- ---- statements without a text

statement_printable : (l : Allowed) (s : Statement) → l.modal ≡ false → is_regular_statement l s ≡ true → has_text s ≡ true
statement_printable l (statement.Annotated name role (body.Formula f)) none h = refl
statement_printable l (statement.Annotated name role (body.Typing t)) none h = refl
statement_printable l (statement.Annotated name role (body.Logic s)) none h =
    let t = and_parts (is_printable_text name) _ h in
    let u = and_parts (is_regular_role role) _ t.1 in
    let v = and_parts (is_body_of (body_kind role.word) (body.Logic s)) _ u.1 in
    absurd (true≢false (sym (and_parts l.modal _ v.1).0 ∙ none))
statement_printable l (statement.Include file names) none h = refl

statements_printable : (l : Allowed) (ss : List Statement) → l.modal ≡ false → list_all (is_regular_statement l) ss ≡ true → list_all has_text ss ≡ true
statements_printable l [] none h = refl
statements_printable l (s ∷ ss) none h =
    let t = and_parts (is_regular_statement l s) (list_all (is_regular_statement l) ss) h in
    and_from (has_text s) (list_all has_text ss) (statement_printable l s none t.0) (statements_printable l ss none t.1)

pub regular_file_printable : (p : Profile) (f : File) → has_modalities p ≡ false → IsRegular (allowed_in p) f → IsTrue (is_printable f)
regular_file_printable p f none h = statements_printable (allowed_in p) f.statements none h

pub no_other_spelled : (p : Profile) (f g : File) → has_modalities p ≡ false → IsRegular (allowed_in p) f → file_levels f ≤ levels_of p → Spells p (text_of f) g → g ≡ f
no_other_spelled p f g none h low spells = one_file_spelled p (text_of f) g f spells (regular_file_spelled p f none h low)

-- what a call that prints a file ensures
pub printed_spells : (f : File) (text : List ℕ) → text ≡ text_of f → (p : Profile) → has_modalities p ≡ false → IsRegular (allowed_in p) f → file_levels f ≤ levels_of p → Spells p text f
printed_spells f text is p none h low = subst (λ (s : List ℕ). Spells p s f) (sym is) (regular_file_spelled p f none h low)
