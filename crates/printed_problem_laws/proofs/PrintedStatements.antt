-- The statements of a printed problem are regular, and need no more levels than the profile of classical problems has.
use Rattle.std.proofs.Common.{◌≡◌, ℕ, zero, suc, ◌+◌, ◌*◌, ◌≤◌, max, Bool, true, false, cond, ◌&&◌, List, [], ◌∷◌, ◌++◌, length, map, Option, Some, None, refl, sym, ap, subst, ◌∙◌, arith}
use Rattle.std.specs.Prelude.{codes, nat_le}
use Rattle.std.specs.Option.{option_map}
use Rattle.std.specs.List.{list_all, AllByRecursion}
use Rattle.std.proofs.lemmas.Bool.{and_parts, and_from, le-leb}
use Rattle.std.proofs.lemmas.List.Folds.{list_all-append}
use Rattle.std.proofs.lemmas.List.Elements.{recursion_from_All}
use Rattle.nxf_tree.specs.Profiles.{Allowed}
use Rattle.nxf_base.specs.Bytes.{is_printable_text}
use Rattle.nxf_tree.specs.declared.profile.Profile.TheVariants as profiles
use Rattle.nxf_tree.specs.declared.tree.Signature.{Signature}
use Rattle.nxf_tree.specs.declared.tree.SortEntry.{SortEntry}
use Rattle.nxf_tree.specs.declared.tree.SymbolEntry.{SymbolEntry}
use Rattle.nxf_tree.specs.declared.tree.IndexEntry.{IndexEntry}
use Rattle.nxf_tree.specs.declared.tree.TableEntry.{TableEntry}
use Rattle.nxf_tree.specs.declared.tree.ClassicalSignature.{ClassicalSignature}
use Rattle.nxf_tree.specs.declared.tree.SortName.{SortName}
use Rattle.nxf_tree.specs.declared.tree.SortName.TheVariants.{Individual, User}
use Rattle.nxf_tree.specs.declared.tree.Part.{Part}
use Rattle.nxf_tree.specs.declared.tree.Part.TheVariants.{Premise, Conjecture}
use Rattle.nxf_tree.specs.declared.tree.Formula.{Formula}
use Rattle.nxf_tree.specs.declared.tree.Body.TheVariants as body
use Rattle.nxf_tree.specs.declared.tree.Typing.{Typing}
use Rattle.nxf_tree.specs.declared.tree.Typing.TheVariants.{Sort, Symbol}
use Rattle.nxf_tree.specs.declared.tree.Statement.{Statement}
use Rattle.nxf_tree.specs.declared.tree.Statement.TheVariants as statement
use Rattle.nxf_tree.specs.declared.tree.File.{File}
use Rattle.nxf_tree.specs.Names.{user_sort, world_name, actual_name, axiom_name, existence_name}
use Rattle.nxf_tree.specs.Signature.{constant_regime, takes_world, sort_names, symbol_names, index_names}
use Rattle.nxf_tree.specs.WellFormed.{is_name, is_sort_name, is_index_name, IsWellFormed}
use Rattle.nxf_tree.specs.ClassicalSignature.{relation_entry, relation_entries, existence_entries, symbol_entry_of, symbol_entries, classical_signature_of}
use Rattle.nxf_tree.specs.Parts.{part_of}
use Rattle.nxf_tree.specs.Embedding.{embedded}
use Rattle.nxf_tree.specs.Axioms.{added_axioms}
use Rattle.nxf_tree.specs.Problem.{problem_of, role_named, statement_of, declaration, sort_declarations, classical_sort_at, table_declaration, declarations, axiom_statements, embedded_part, embedded_statement, embedded_statements}
use Rattle.nxf_tree.specs.RegularFormulas.{is_regular_sort, is_regular_formula}
use Rattle.nxf_tree.specs.Regular.{body_kind}
use Rattle.nxf_tree.specs.Regular.{is_regular_result, is_regular_typing, is_regular_role, is_body_of, is_regular_statement, IsRegular}
use Rattle.syntax_definitions.specs.Levels.{formula_levels, statement_levels, statement_list_levels, file_levels}
use Rattle.nxf_tree.specs.Profiles.{allowed_in, levels_of, greatest_nesting, most_arguments}
use Rattle.printed_problem_laws.proofs.PrintedNames.{printable_user_name, regular_user_sort, printable_axiom_name, printable_world, printable_actual, printable_relation, printable_existence, printable_name, regular_sort_name, regular_index_name}
use Rattle.printed_problem_laws.proofs.PrintedFormulas.{HasRoom, embedded_regular, embedded_levels}
use Rattle.printed_problem_laws.proofs.PrintedAxioms.{IsFine, axioms_fine}

module _ (l m : Allowed) (room : HasRoom l m) where
  abbrev AreRegular : List Statement → Type 0
  AreRegular ss = list_all (is_regular_statement m) ss ≡ true

  both : (ss ts : List Statement) → AreRegular ss → AreRegular ts → AreRegular (ss ++ ts)
  both ss ts h k = list_all-append (is_regular_statement m) ss ts ∙ and_from (list_all (is_regular_statement m) ss) (list_all (is_regular_statement m) ts) h k

  -- ---- declarations

  declared : (name : List ℕ) (typing : Typing) → is_printable_text name ≡ true → is_regular_typing m typing ≡ true → is_regular_statement m (declaration name typing) ≡ true
  declared name typing a b = and_from (is_printable_text name) (is_regular_typing m typing) a b

  sorts_declared : (sorts : List SortName) → list_all is_regular_sort sorts ≡ true → AreRegular (sort_declarations sorts)
  sorts_declared [] h = refl
  sorts_declared (Individual ∷ sorts) h = sorts_declared sorts h
  sorts_declared (User name ∷ sorts) h =
      let t = and_parts (is_printable_text name) (list_all is_regular_sort sorts) h in
      and_from (is_regular_statement m (declaration name (Sort name))) (list_all (is_regular_statement m) (sort_declarations sorts)) (declared name (Sort name) t.0 t.0) (sorts_declared sorts t.1)

  module _ (sorts : List SortName) (sorted : list_all is_regular_sort sorts ≡ true) where
    sort_regular : (all : List SortName) → list_all is_regular_sort all ≡ true → (k : ℕ) → is_regular_sort (classical_sort_at all k) ≡ true
    sort_regular [] h k = refl
    sort_regular (s ∷ all) h zero = (and_parts (is_regular_sort s) (list_all is_regular_sort all) h).0
    sort_regular (s ∷ all) h (suc k) = sort_regular all (and_parts (is_regular_sort s) (list_all is_regular_sort all) h).1 k

    arguments_regular : (args : List ℕ) → list_all is_regular_sort (map (classical_sort_at sorts) args) ≡ true
    arguments_regular [] = refl
    arguments_regular (k ∷ args) = and_from (is_regular_sort (classical_sort_at sorts k)) (list_all is_regular_sort (map (classical_sort_at sorts) args)) (sort_regular sorts sorted k) (arguments_regular args)

    as_many : (args : List ℕ) → length (map (classical_sort_at sorts) args) ≡ length args
    as_many [] = refl
    as_many (k ∷ args) = ap suc (as_many args)

    gives_regular : (gives : Option ℕ) → is_regular_result (option_map (classical_sort_at sorts) gives) ≡ true
    gives_regular None = refl
    gives_regular (Some k) = sort_regular sorts sorted k

    -- a table with a name that can be printed, and not too many arguments
    record IsFineTable (entry : TableEntry) : Type 0 where
      name : is_printable_text entry.name ≡ true
      few : length entry.args ≤ m.arguments

    table_regular : (entry : TableEntry) → IsFineTable entry → is_regular_statement m (table_declaration sorts entry) ≡ true
    table_regular entry h =
        let args = map (classical_sort_at sorts) entry.args in
        let gives = option_map (classical_sort_at sorts) entry.gives in
        declared entry.name (Symbol entry.name args gives) h.name
        (and_from (is_printable_text entry.name) (nat_le (length args) m.arguments && (list_all is_regular_sort args && is_regular_result gives)) h.name
        (and_from (nat_le (length args) m.arguments) (list_all is_regular_sort args && is_regular_result gives) (le-leb (length args) m.arguments (omega (arith, as_many entry.args, h.few)))
        (and_from (list_all is_regular_sort args) (is_regular_result gives) (arguments_regular entry.args) (gives_regular entry.gives))))

    one_table : (entry : TableEntry) (entries : List TableEntry) → IsFineTable entry → AreRegular (map (table_declaration sorts) entries) → AreRegular (map (table_declaration sorts) (entry ∷ entries))
    one_table entry entries h more = and_from (is_regular_statement m (table_declaration sorts entry)) (list_all (is_regular_statement m) (map (table_declaration sorts) entries)) (table_regular entry h) more

    tables_append : (xs ys : List TableEntry) → AreRegular (map (table_declaration sorts) xs) → AreRegular (map (table_declaration sorts) ys) → AreRegular (map (table_declaration sorts) (xs ++ ys))
    tables_append [] ys h k = k
    tables_append (x ∷ xs) ys h k =
        let t = and_parts (is_regular_statement m (table_declaration sorts x)) (list_all (is_regular_statement m) (map (table_declaration sorts) xs)) h in
        and_from (is_regular_statement m (table_declaration sorts x)) (list_all (is_regular_statement m) (map (table_declaration sorts) (xs ++ ys))) t.0 (tables_append xs ys t.1 k)

    relations_regular : (entries : List IndexEntry) → list_all is_index_name (index_names entries) ≡ true → AreRegular (map (table_declaration sorts) (relation_entries entries))
    relations_regular [] h = refl
    relations_regular (entry ∷ entries) h =
        let t = and_parts (is_index_name entry.name) (list_all is_index_name (index_names entries)) h in
        one_table (relation_entry entry) (relation_entries entries) (record { name = printable_relation entry.name (regular_index_name entry.name t.0); few = room.two }) (relations_regular entries t.1)

    existence_by : (b : Bool) (entry : TableEntry) (entries : List TableEntry) → IsFineTable entry → AreRegular (map (table_declaration sorts) entries) → AreRegular (map (table_declaration sorts) (cond b entries (entry ∷ entries)))
    existence_by true entry entries h more = more
    existence_by false entry entries h more = one_table entry entries h more

    existences_regular : (k : ℕ) (entries : List SortEntry) → list_all is_sort_name (sort_names entries) ≡ true → AreRegular (map (table_declaration sorts) (existence_entries k entries))
    existences_regular k [] h = refl
    existences_regular k (entry ∷ entries) h =
        let t = and_parts (is_sort_name entry.name) (list_all is_sort_name (sort_names entries)) h in
        existence_by (constant_regime entry.regime) (record { name = existence_name entry.name; args = 0 ∷ suc k ∷ []; gives = None }) (existence_entries (suc k) entries)
        (record { name = printable_existence entry.name (regular_sort_name entry.name t.0); few = room.two }) (existences_regular (suc k) entries t.1)

    numbers_long : (args : List ℕ) → length (map suc args) ≡ length args
    numbers_long [] = refl
    numbers_long (k ∷ args) = ap suc (numbers_long args)

    world_long : (b : Bool) (args : List ℕ) → length (cond b (0 ∷ args) args) ≤ suc (length args)
    world_long true args = omega arith
    world_long false args = omega arith

    symbols_regular : (entries : List SymbolEntry) → list_all is_name (symbol_names entries) ≡ true → AllByRecursion (λ (entry : SymbolEntry). length entry.args ≤ l.arguments) entries → AreRegular (map (table_declaration sorts) (symbol_entries entries))
    symbols_regular [] h few = refl
    symbols_regular (entry ∷ entries) h few =
        let t = and_parts (is_name entry.name) (list_all is_name (symbol_names entries)) h in
        one_table (symbol_entry_of entry) (symbol_entries entries)
        (record { name = printable_user_name entry.name (printable_name entry.name t.0); few = omega (arith, world_long (takes_world entry) (map suc entry.args), numbers_long entry.args, few.0, room.more) })
        (symbols_regular entries t.1 few.1)

  user_sorts_regular : (sorts : List SortName) → list_all is_sort_name sorts ≡ true → list_all is_regular_sort (map user_sort sorts) ≡ true
  user_sorts_regular [] h = refl
  user_sorts_regular (s ∷ sorts) h =
      let t = and_parts (is_sort_name s) (list_all is_sort_name sorts) h in
      and_from (is_regular_sort (user_sort s)) (list_all is_regular_sort (map user_sort sorts)) (regular_user_sort s (regular_sort_name s t.0)) (user_sorts_regular sorts t.1)

  actual_declared : is_regular_statement m (declaration actual_name (Symbol actual_name [] (Some (User world_name)))) ≡ true
  actual_declared =
      declared actual_name (Symbol actual_name [] (Some (User world_name))) printable_actual
      (and_from (is_printable_text actual_name) (nat_le 0 m.arguments && (true && is_printable_text world_name)) printable_actual
      (and_from (nat_le 0 m.arguments) (true && is_printable_text world_name) (le-leb 0 m.arguments (omega arith)) printable_world))

  -- ---- formulas

  stated : (name word : List ℕ) (f : Formula) → is_regular_role (role_named word) ≡ true → is_body_of (body_kind word) (body.Formula f) ≡ true → is_printable_text name ≡ true → is_regular_formula m f ≡ true → is_regular_statement m (statement_of name word f) ≡ true
  stated name word f r k a b =
      and_from (is_printable_text name) (is_regular_role (role_named word) && (is_body_of (body_kind word) (body.Formula f) && is_regular_formula m f)) a
      (and_from (is_regular_role (role_named word)) (is_body_of (body_kind word) (body.Formula f) && is_regular_formula m f) r (and_from (is_body_of (body_kind word) (body.Formula f)) (is_regular_formula m f) k b))

  axioms_regular : (most n : ℕ) (fs : List Formula) → AllByRecursion (IsFine m most) fs → AreRegular (axiom_statements n fs)
  axioms_regular most n [] h = refl
  axioms_regular most n (f ∷ fs) h =
      and_from (is_regular_statement m (statement_of (axiom_name n) (codes "axiom") f)) (list_all (is_regular_statement m) (axiom_statements (suc n) fs))
      (stated (axiom_name n) (codes "axiom") f refl refl (printable_axiom_name n) h.0.regular) (axioms_regular most (suc n) fs h.1)

  module _ (sig : Signature) where
    part_regular : (name : List ℕ) (f : Formula) (part : Option Part) → is_printable_text name ≡ true → is_regular_formula l f ≡ true → AreRegular (embedded_part sig name f part)
    part_regular name f None a b = refl
    part_regular name f (Some (Premise scope)) a b = and_from (is_regular_statement m (statement_of name (codes "axiom") (embedded sig scope f))) true (stated name (codes "axiom") (embedded sig scope f) refl refl a (embedded_regular sig l m room scope f b)) refl
    part_regular name f (Some (Conjecture scope)) a b = and_from (is_regular_statement m (statement_of name (codes "conjecture") (embedded sig scope f))) true (stated name (codes "conjecture") (embedded sig scope f) refl refl a (embedded_regular sig l m room scope f b)) refl

    statement_regular : (s : Statement) → is_regular_statement l s ≡ true → AreRegular (embedded_statement sig s)
    statement_regular (statement.Annotated name role (body.Formula f)) h =
        let t = and_parts (is_printable_text name) (is_regular_role role && (is_body_of (body_kind role.word) (body.Formula f) && is_regular_formula l f)) h in
        let u = and_parts (is_regular_role role) (is_body_of (body_kind role.word) (body.Formula f) && is_regular_formula l f) t.1 in
        part_regular name f (part_of role) t.0 (and_parts (is_body_of (body_kind role.word) (body.Formula f)) (is_regular_formula l f) u.1).1
    statement_regular (statement.Annotated name role (body.Typing t)) h = refl
    statement_regular (statement.Annotated name role (body.Logic s)) h = refl
    statement_regular (statement.Include file names) h = refl

    statements_regular : (ss : List Statement) → list_all (is_regular_statement l) ss ≡ true → AreRegular (embedded_statements sig ss)
    statements_regular [] h = refl
    statements_regular (s ∷ ss) h =
        let t = and_parts (is_regular_statement l s) (list_all (is_regular_statement l) ss) h in
        both (embedded_statement sig s) (embedded_statements sig ss) (statement_regular s t.0) (statements_regular ss t.1)

  pub problem_regular : (sig : Signature) (file : File) (most : ℕ) → list_all is_sort_name (sort_names sig.sorts) ≡ true → list_all is_name (symbol_names sig.symbols) ≡ true → list_all is_index_name (index_names sig.indexes) ≡ true
      → AllByRecursion (λ (entry : SymbolEntry). length entry.args ≤ l.arguments) sig.symbols → AllByRecursion (IsFine m most) (added_axioms sig) → IsRegular l file → IsRegular m (problem_of sig file)
  problem_regular sig file most sorts symbols indexes few axioms regular =
      let csig = classical_signature_of sig in
      let sorted = and_from (is_printable_text world_name) (list_all is_regular_sort (map user_sort (sort_names sig.sorts))) printable_world (user_sorts_regular (sort_names sig.sorts) sorts) in
      both (declarations csig) (axiom_statements 1 (added_axioms sig) ++ embedded_statements sig file.statements)
      (both (sort_declarations csig.sorts) _ (sorts_declared csig.sorts sorted)
      (and_from (is_regular_statement m (declaration actual_name (Symbol actual_name [] (Some (User world_name))))) (list_all (is_regular_statement m) (map (table_declaration csig.sorts) csig.tables)) actual_declared
      (tables_append csig.sorts sorted (relation_entries sig.indexes) (existence_entries 0 sig.sorts ++ symbol_entries sig.symbols) (relations_regular csig.sorts sorted sig.indexes indexes)
      (tables_append csig.sorts sorted (existence_entries 0 sig.sorts) (symbol_entries sig.symbols) (existences_regular csig.sorts sorted 0 sig.sorts sorts) (symbols_regular csig.sorts sorted sig.symbols symbols few)))))
      (both (axiom_statements 1 (added_axioms sig)) (embedded_statements sig file.statements) (axioms_regular most 1 (added_axioms sig) axioms) (statements_regular sig file.statements regular))

-- ---- levels

levels_append : (ss ts : List Statement) → statement_list_levels (ss ++ ts) ≡ max (statement_list_levels ss) (statement_list_levels ts)
levels_append [] ts = omega arith
levels_append (s ∷ ss) ts = omega (arith, levels_append ss ts)

sort_levels : (sorts : List SortName) → statement_list_levels (sort_declarations sorts) ≡ 0
sort_levels [] = refl
sort_levels (Individual ∷ sorts) = sort_levels sorts
sort_levels (User name ∷ sorts) = omega (arith, sort_levels sorts)

table_levels : (sorts : List SortName) (entries : List TableEntry) → statement_list_levels (map (table_declaration sorts) entries) ≡ 0
table_levels sorts [] = refl
table_levels sorts (entry ∷ entries) = omega (arith, table_levels sorts entries)

declaration_levels : (csig : ClassicalSignature) → statement_list_levels (declarations csig) ≡ 0
declaration_levels csig = omega (arith, levels_append (sort_declarations csig.sorts) (declaration actual_name (Symbol actual_name [] (Some (User world_name))) ∷ map (table_declaration csig.sorts) csig.tables), sort_levels csig.sorts, table_levels csig.sorts csig.tables)

axiom_levels : (m : Allowed) (most n : ℕ) (fs : List Formula) → AllByRecursion (IsFine m most) fs → statement_list_levels (axiom_statements n fs) ≤ most
axiom_levels m most n [] h = omega arith
axiom_levels m most n (f ∷ fs) h = omega (arith, h.0.low, axiom_levels m most (suc n) fs h.1)

module _ (sig : Signature) where
  part_levels : (name : List ℕ) (f : Formula) (part : Option Part) → statement_list_levels (embedded_part sig name f part) ≤ 3 * formula_levels f + 3
  part_levels name f None = omega arith
  part_levels name f (Some (Premise scope)) = omega (arith, embedded_levels sig scope f)
  part_levels name f (Some (Conjecture scope)) = omega (arith, embedded_levels sig scope f)

  one_levels : (s : Statement) → statement_list_levels (embedded_statement sig s) ≤ 3 * statement_levels s + 3
  one_levels (statement.Annotated name role (body.Formula f)) = part_levels name f (part_of role)
  one_levels (statement.Annotated name role (body.Typing t)) = omega arith
  one_levels (statement.Annotated name role (body.Logic s)) = omega arith
  one_levels (statement.Include file names) = omega arith

  embedded_list_levels : (ss : List Statement) → statement_list_levels (embedded_statements sig ss) ≤ 3 * statement_list_levels ss + 3
  embedded_list_levels [] = omega arith
  embedded_list_levels (s ∷ ss) = omega (arith, levels_append (embedded_statement sig s) (embedded_statements sig ss), one_levels s, embedded_list_levels ss)

  problem_levels : (m : Allowed) (most : ℕ) (file : File) → AllByRecursion (IsFine m most) (added_axioms sig) → file_levels (problem_of sig file) ≤ max most (3 * file_levels file + 3)
  problem_levels m most file axioms =
      omega (
        arith,
        levels_append (declarations (classical_signature_of sig)) (axiom_statements 1 (added_axioms sig) ++ embedded_statements sig file.statements),
        levels_append (axiom_statements 1 (added_axioms sig)) (embedded_statements sig file.statements),
        declaration_levels (classical_signature_of sig),
        axiom_levels m most 1 (added_axioms sig) axioms,
        embedded_list_levels file.statements,
      )

-- ---- the profiles

problem_arguments : (allowed_in profiles.Problem).arguments ≡ 1000
unfolding most_arguments
problem_arguments = refl

classical_arguments : (allowed_in profiles.Classical).arguments ≡ 1001
unfolding most_arguments
classical_arguments = refl

problem_below : levels_of profiles.Problem ≡ 999
unfolding greatest_nesting
problem_below = refl

classical_below : levels_of profiles.Classical ≡ 3999
unfolding greatest_nesting
classical_below = refl

profiles_room : HasRoom (allowed_in profiles.Problem) (allowed_in profiles.Classical)
profiles_room = record { more = omega (arith, problem_arguments, classical_arguments); two = omega (arith, classical_arguments) }

few_by : (n : ℕ) (entries : List SymbolEntry) → n ≡ 1000 → AllByRecursion (λ (entry : SymbolEntry). length entry.args ≤ 1000) entries → AllByRecursion (λ (entry : SymbolEntry). length entry.args ≤ n) entries
few_by n entries e h = subst (λ (k : ℕ). AllByRecursion (λ (entry : SymbolEntry). length entry.args ≤ k) entries) (sym e) h

few_arguments : (sig : Signature) → IsWellFormed sig → AllByRecursion (λ (entry : SymbolEntry). length entry.args ≤ (allowed_in profiles.Problem).arguments) sig.symbols
few_arguments sig formed = few_by (allowed_in profiles.Problem).arguments sig.symbols problem_arguments (recursion_from_All (λ (entry : SymbolEntry). length entry.args ≤ 1000) sig.symbols formed.arguments)

fine_axioms : (sig : Signature) → IsWellFormed sig → AllByRecursion (IsFine (allowed_in profiles.Classical) 3000) (added_axioms sig)
fine_axioms sig formed =
    axioms_fine (allowed_in profiles.Classical) profiles_room.two sig 3000 (allowed_in profiles.Problem).arguments formed.sort_texts formed.symbol_texts formed.index_texts (few_arguments sig formed)
    (omega arith) (omega (arith, problem_arguments)) profiles_room.more

pub printed_regular : (sig : Signature) (file : File) → IsWellFormed sig → IsRegular (allowed_in profiles.Problem) file → IsRegular (allowed_in profiles.Classical) (problem_of sig file)
printed_regular sig file formed regular =
    problem_regular (allowed_in profiles.Problem) (allowed_in profiles.Classical) profiles_room sig file 3000 formed.sort_texts formed.symbol_texts formed.index_texts (few_arguments sig formed) (fine_axioms sig formed) regular

pub printed_levels : (sig : Signature) (file : File) → IsWellFormed sig → file_levels file ≤ levels_of profiles.Problem → file_levels (problem_of sig file) ≤ levels_of profiles.Classical
printed_levels sig file formed low = omega (arith, problem_levels sig (allowed_in profiles.Classical) 3000 file (fine_axioms sig formed), low, problem_below, classical_below)
