-- The tables of a file hold what the definitions say.
use Rattle.std.proofs.Common.{◌≡◌, ℕ, List, [], ◌∷◌, refl, sym, ap, ◌∙◌}
use Rattle.std.specs.Prelude.{◌||◌, if◌then◌else◌, map, filter}
use Rattle.std.specs.Option.{unwrap_or}
use Rattle.std.specs.List.{list_any}
use Rattle.std.specs.Map.{keys_of}
use Rattle.indexmap.specs.IndexSet.{insert_all}
use Rattle.nxf_tree.specs.declared.tree.IndexName.TheVariants.{Plain, Named}
use Rattle.nxf_tree.specs.declared.tree.SortName.{SortName}
use Rattle.nxf_tree.specs.declared.tree.SortName.TheVariants.{Individual, User}
use Rattle.nxf_tree.specs.declared.tree.Typing.TheVariants.{Individual as IsIndividual, Sort, Symbol}
use Rattle.nxf_tree.specs.declared.tree.Body.TheVariants.{Formula as IsFormula, Typing as IsTyping, Logic as IsLogic}
use Rattle.nxf_tree.specs.declared.tree.Statement.{Statement}
use Rattle.nxf_tree.specs.declared.tree.Statement.TheVariants.{Annotated, Include}
use Rattle.nxf_tree.specs.Names.{same_text}
use Rattle.nxf_tree.specs.Counting.{has}
use Rattle.nxf_tree.specs.Signature.{same_sort, same_index, symbol_names}
use Rattle.nxf_tree.specs.Sorting.{SymbolType}
use Rattle.nxf_tree.specs.Specification.{Specification}
use Rattle.nxf_tree.specs.Occurrences.{Use, Occurrence, uses, indexes, declared, declared_sorts, occurrences_in}
use Rattle.nxf_tree.specs.SignatureOf.{firsts, same_symbol, type_in, typed, symbols_of, mentions_individual, has_individual, is_named, symbol_entry}
use Rattle.nxf_signatures.specs.declared.tables.Tables.{Tables}
use Rattle.nxf_signatures.specs.steps.Tables.{uses_in, sort_texts, Seen, nothing, and_occurrences, seen_in}
use Rattle.nxf_signatures.specs.steps.TablesOf.{AreTablesOf}
use Rattle.nxf_signatures.proofs.Noted.{texts_noted, symbols_noted, firsts-mapped, type_first, texts_of, seen_symbols, seen_individual, seen_plain, seen_indexes, named_texts}

-- the declared sorts by their texts
pub sorts_are : (ss : List Statement) → declared_sorts ss ≡ map User (sort_texts ss)
sorts_are [] = refl
sorts_are (Annotated name role (IsTyping (Sort s)) ∷ ss) = ap (λ l. User s ∷ l) (sorts_are ss)
sorts_are (Annotated name role (IsTyping (Symbol f args gives)) ∷ ss) = sorts_are ss
sorts_are (Annotated name role (IsTyping IsIndividual) ∷ ss) = sorts_are ss
sorts_are (Annotated name role (IsFormula f) ∷ ss) = sorts_are ss
sorts_are (Annotated name role (IsLogic l) ∷ ss) = sorts_are ss
sorts_are (Include file names ∷ ss) = sorts_are ss

pub symbols_named : (ss : List SortName) (spec : Specification) (entries : List (List ℕ × SymbolType)) → symbol_names (map (symbol_entry ss spec) (uses_in entries)) ≡ keys_of entries
symbols_named ss spec [] = refl
symbols_named ss spec (e ∷ entries) = ap (λ l. e.0 ∷ l) (symbols_named ss spec entries)

module _ (ss : List Statement) (t : Tables) where
  abbrev us : List Use
  us = uses_in t.declarations.symbols.entries

  abbrev os : List Occurrence
  os = occurrences_in ss

  module _ (own : us ≡ insert_all same_symbol [] (declared ss)) (texts : t.declarations.sorts.keys ≡ insert_all same_text [] (sort_texts ss))
      (seen : seen_in t.occurring ≡ and_occurrences us nothing (occurrences_in ss))
      (individual : t.individual ≡ (list_any mentions_individual (uses_in t.occurring.symbols.entries) || t.occurring.individual)) where
    declared_are : us ≡ firsts same_symbol (declared ss)
    declared_are = own ∙ symbols_noted (declared ss)

    same_type : (f : List ℕ) → type_in us f ≡ type_in (declared ss) f
    same_type f = ap (λ vs. type_in vs f) declared_are ∙ type_first (declared ss) f

    symbols_are : uses_in t.occurring.symbols.entries ≡ symbols_of ss
    symbols_are =
        ap (λ (s : Seen). s.symbols) seen
        ∙ seen_symbols us os nothing
        ∙ symbols_noted (map (typed us) (uses os))
        ∙ firsts-mapped (typed us) same_symbol same_symbol (λ u v. refl) (uses os)
        ∙ (λ i. map (λ (u : Use). record { name = u.name; type = unwrap_or (same_type u.name i) u.type }) (firsts same_symbol (uses os)))

    individual_is : t.individual ≡ has_individual ss
    individual_is = individual ∙ (λ i. list_any mentions_individual (symbols_are i) || (ap (λ (s : Seen). s.individual) seen ∙ seen_individual us os nothing) i)

    user_sorts : map User t.declarations.sorts.keys ≡ firsts same_sort (declared_sorts ss)
    user_sorts = ap (map User) (texts ∙ texts_noted (sort_texts ss)) ∙ sym (ap (firsts same_sort) (sorts_are ss) ∙ firsts-mapped User same_text same_sort (λ x y. refl) (sort_texts ss))

    named_indexes : map Named t.occurring.indexes.keys ≡ firsts same_index (filter is_named (indexes os))
    named_indexes =
        ap (map Named) (ap (λ (s : Seen). s.indexes) seen ∙ seen_indexes us os nothing ∙ texts_noted (texts_of (indexes os)))
        ∙ sym (ap (firsts same_index) (named_texts (indexes os)) ∙ firsts-mapped Named same_text same_index (λ x y. refl) (texts_of (indexes os)))

    plain_is : t.occurring.plain ≡ has same_index Plain (indexes os)
    plain_is = ap (λ (s : Seen). s.plain) seen ∙ seen_plain us os nothing

    pub tables_are : AreTablesOf ss t
    tables_are = record {
      declared = declared_are;
      sorts = λ i. if individual_is i then Individual ∷ user_sorts i else user_sorts i;
      symbols = symbols_are;
      users = user_sorts;
      named = named_indexes;
      indexes = λ i. if plain_is i then Plain ∷ named_indexes i else named_indexes i;
    }
