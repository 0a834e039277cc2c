-- The faults of an interpretation's parts. A part is judged with the closures and declarations of the whole file, and with the parts before it; the
-- whole part is tried for its form, then for its symbols, then for its elements, then for clashes.
use Rattle.std.specs.Prelude.{ℕ, Bool, true, false, ◌&&◌, ◌||◌, not, nat_eq, if◌then◌else◌, List, [], ◌∷◌, map, length, flat_map, slice_get, Option, None, Some, is_some, is_none}
use Rattle.std.specs.List.{list_any, list_all}
use Rattle.std.specs.Option.{option_map}
use Rattle.nxf_tree.specs.declared.tree.SortName.{SortName}
use Rattle.nxf_tree.specs.declared.tree.SortName.TheVariants.{Individual, User}
use Rattle.nxf_tree.specs.declared.tree.TableEntry.{TableEntry}
use Rattle.nxf_tree.specs.declared.tree.Typing.{Typing}
use Rattle.nxf_tree.specs.declared.tree.Typing.TheVariants as typing
use Rattle.nxf_tree.specs.declared.tree.Statement.{Statement}
use Rattle.nxf_tree.specs.Names.{same_text}
use Rattle.nxf_tree.specs.Signature.{same_sort}
use Rattle.nxf_tree.specs.Counting.{has, all_different}
use Rattle.nxf_tree.specs.Faults.{first_fault}
use Rattle.interpretation_definitions.specs.declared.fault.PartFault.{PartFault}
use Rattle.interpretation_definitions.specs.declared.fault.PartFault.TheVariants.{Form, UnknownSymbol, UnknownElement, Clash}
use Rattle.interpretation_definitions.specs.declared.element.Element.{Element}
use Rattle.interpretation_definitions.specs.Parts.{Argument, plain_name, head_name, Part, Formless, Declares, Closes, Applies, Equates, Differs, AllDiffer, SaysNothing, parts_of, all_parts}
use Rattle.interpretation_definitions.specs.Context.{Context, sort_number, listings_of, is_listed, is_sort, is_extra, is_unknown, symbol}
use Rattle.interpretation_definitions.specs.Given.{Given, value_in, element_of, elements_of, numbers_of, bit, given_by}

-- the tries in their order
abbrev pub tried : Bool → Bool → Bool → Bool → Option PartFault
tried form symbols elements clash =
    if form then Some Form
    else (if symbols then Some UnknownSymbol
    else (if elements then Some UnknownElement
    else (if clash then Some Clash else None)))

-- a dropped part has no fault
abbrev pub unless_dropped : Bool → Option PartFault → Option PartFault
unless_dropped dropped fault = if dropped then None else fault

abbrev pub is_plain : Argument → Bool
is_plain arg = is_some (plain_name arg)

-- whether the argument is a plain name that no closure of a known sort lists
abbrev pub is_unlisted : Context → Argument → Bool
is_unlisted context arg = is_none (element_of context arg)

abbrev pub has_extra_head : Context → Argument → Bool
has_extra_head context arg = option_any (is_extra context) (head_name arg)
  where
    option_any : (List ℕ → Bool) → Option (List ℕ) → Bool
    option_any test None = false
    option_any test (Some name) = test name

-- whether a row gives another value than an earlier one
abbrev pub is_other : Option ℕ → ℕ → Bool
is_other None value = false
is_other (Some old) value = not (nat_eq old value)

abbrev pub sorts_of : List Element → List ℕ
sorts_of = map (λ e. e.sort)

-- whether the arguments are of other sorts than the symbol takes, or the row differs
abbrev pub row_clash : List Given → ℕ × TableEntry → List Element → ℕ → Bool
row_clash given known es value =
    not (same_text (sorts_of es) known.1.args) || is_other (value_in given known.0 (numbers_of es)) value

-- Predicates.
-- a known function, or a predicate with another number of arguments
abbrev pub wrong_predicate : Option (ℕ × TableEntry) → ℕ → Bool
wrong_predicate None count = false
wrong_predicate (Some known) count = is_some known.1.gives || not (nat_eq (length known.1.args) count)

abbrev pub atom_clash : List Given → Option (ℕ × TableEntry) → List Element → ℕ → Bool
atom_clash given None es value = false
atom_clash given (Some known) es value = row_clash given known es value

-- whether an atom has no form: an argument is no plain name, or what stands for the predicate is an element, a sort or no predicate with so many arguments
abbrev pub atom_form : Context → Option (ℕ × TableEntry) → List ℕ → List Argument → Bool
atom_form context known p args =
    not (list_all is_plain args) || is_listed context p || is_sort context p || wrong_predicate known (length args)

-- the tries of an atom
abbrev pub atom_tried : Context → Option (ℕ × TableEntry) → List ℕ → List Argument → Bool → Option PartFault
atom_tried context known p args clash =
    tried (atom_form context known p args) (is_unknown context p) (list_any (is_unlisted context) args) clash

abbrev pub atom_fault : Context → List Given → Bool → List ℕ → List Argument → Option PartFault
atom_fault context given truth p args =
    unless_dropped (is_extra context p)
    (atom_tried context (symbol context p) p args (atom_clash given (symbol context p) (elements_of context args) (bit truth)))

-- Functions.
-- a name that is no known symbol but an element, or a predicate, or a function with another number of arguments
abbrev pub wrong_function : Context → List ℕ → Option (ℕ × TableEntry) → ℕ → Bool
wrong_function context f None count = is_listed context f
wrong_function context f (Some known) count = is_none known.1.gives || not (nat_eq (length known.1.args) count)

-- whether the value is of another sort than the function gives, or the row clashes
abbrev pub value_clash : List Given → ℕ × TableEntry → Option ℕ → List Element → Option Element → Bool
value_clash given known None es value = false
value_clash given known (Some sort) es None = false
value_clash given known (Some sort) es (Some e) = not (nat_eq e.sort sort) || row_clash given known es e.number

abbrev pub equation_clash : List Given → Option (ℕ × TableEntry) → List Element → Option Element → Bool
equation_clash given None es value = false
equation_clash given (Some known) es value = value_clash given known known.1.gives es value

-- whether an equation has no form: an argument or the value is no plain name, or what stands for the function is a sort or no function with so many
-- arguments
abbrev pub equation_form : Context → Option (ℕ × TableEntry) → List ℕ → List Argument → Argument → Bool
equation_form context known f args value =
    not (list_all is_plain args) || not (is_plain value) || is_sort context f || wrong_function context f known (length args)

-- the tries of an equation
abbrev pub equation_tried : Context → Option (ℕ × TableEntry) → List ℕ → List Argument → Argument → Bool → Option PartFault
equation_tried context known f args value clash =
    tried
    (equation_form context known f args value)
    (is_unknown context f)
    (list_any (is_unlisted context) args || is_unlisted context value)
    clash

abbrev pub equation_fault : Context → List Given → List ℕ → List Argument → Argument → Option PartFault
equation_fault context given f args value =
    unless_dropped (is_extra context f)
    (equation_tried context (symbol context f) f args value
    (equation_clash given (symbol context f) (elements_of context args) (element_of context value)))

-- Disequations.
abbrev pub same_element : Element → Element → Bool
same_element d e = nat_eq d.sort e.sort && nat_eq d.number e.number

-- whether one of the elements is of another sort than the first
abbrev pub two_sorts : List Element → Bool
two_sorts [] = false
two_sorts (e ∷ es) = list_any (λ (d : Element). not (nat_eq d.sort e.sort)) es

-- whether elements of two sorts are named, or one element twice
abbrev pub differ_clash : List Element → Bool
differ_clash es = two_sorts es || not (all_different same_element es)

abbrev pub differ_fault : Context → Bool → List Argument → Option PartFault
differ_fault context dropped args =
    unless_dropped dropped (tried
    (not (list_all is_plain args))
    false
    (list_any (is_unlisted context) args)
    (differ_clash (elements_of context args)))

abbrev pub pair_fault : Context → Argument → Argument → Option PartFault
pair_fault context left right = differ_fault context (has_extra_head context left) (left ∷ right ∷ [])

abbrev pub distinct_fault : Context → List Argument → Option PartFault
distinct_fault context args = differ_fault context (list_any (has_extra_head context) args) args

-- Closures.
-- the names that were listed before, each with its sort
abbrev pub listings_before : Context → List Part → List (List ℕ × ℕ)
listings_before context before = flat_map (listings_of context.sorts) before

-- whether a symbol is a constant of the sort
abbrev pub is_constant_of : ℕ → List ℕ → Option ℕ → Bool
is_constant_of sort args None = false
is_constant_of sort [] (Some gives) = nat_eq gives sort
is_constant_of sort (arg ∷ args) (Some gives) = false

abbrev pub symbol_of_another : ℕ → Option (ℕ × TableEntry) → Bool
symbol_of_another sort None = false
symbol_of_another sort (Some known) = not (is_constant_of sort known.1.args known.1.gives)

-- whether a name can't be listed for the sort: it is known, and no constant of the sort
abbrev pub is_taken : Context → ℕ → List ℕ → Bool
is_taken context sort name = is_sort context name || symbol_of_another sort (symbol context name)

-- whether the sort had a closure before, or a name was listed before, or stands twice in the closure, or can't be listed
abbrev pub listing_clash : Context → List (List ℕ × ℕ) → ℕ → List (List ℕ) → Bool
listing_clash context listings sort names =
    list_any (λ listing. nat_eq listing.1 sort) listings
    || list_any (λ name. has same_text name (map (λ listing. listing.0) listings)) names
    || not (all_different same_text names)
    || list_any (is_taken context sort) names

abbrev pub closure_clash : Context → List Part → Option ℕ → List (List ℕ) → Bool
closure_clash context before None names = false
closure_clash context before (Some sort) names = listing_clash context (listings_before context before) sort names

abbrev pub extra_sort : Context → SortName → Bool
extra_sort context Individual = false
extra_sort context (User s) = is_extra context s

abbrev pub closure_fault : Context → List Part → SortName → List (List ℕ) → Option PartFault
closure_fault context before s names =
    unless_dropped (extra_sort context s) (tried
    false
    (is_none (sort_number context.sorts s))
    false
    (closure_clash context before (sort_number context.sorts s) names))

-- Declarations.
-- whether the number is that of the sort
abbrev pub same_at : SortName → Option SortName → Bool
same_at s None = false
same_at s (Some t) = same_sort t s

abbrev pub is_sort_at : List SortName → ℕ → SortName → Bool
is_sort_at sorts k s = same_at s (slice_get sorts k)

abbrev pub same_sorts : List SortName → List ℕ → List SortName → Bool
same_sorts sorts [] [] = true
same_sorts sorts [] (s ∷ args) = false
same_sorts sorts (k ∷ ks) [] = false
same_sorts sorts (k ∷ ks) (s ∷ args) = is_sort_at sorts k s && same_sorts sorts ks args

abbrev pub same_value : List SortName → Option ℕ → Option SortName → Bool
same_value sorts None None = true
same_value sorts None (Some s) = false
same_value sorts (Some k) None = false
same_value sorts (Some k) (Some s) = is_sort_at sorts k s

-- whether a symbol is known with another type
abbrev pub retyped : Context → Option (ℕ × TableEntry) → List SortName → Option SortName → Bool
retyped context None args gives = false
retyped context (Some known) args gives = not (same_sorts context.sorts known.1.args args && same_value context.sorts known.1.gives gives)

-- whether an element is declared otherwise than as a constant of its sort
abbrev pub moved : Context → Option Element → List SortName → Option SortName → Bool
moved context None args gives = false
moved context (Some e) args gives = not (same_sorts context.sorts [] args && same_value context.sorts (Some e.sort) gives)

abbrev pub declaration_clash : Context → Typing → Bool
declaration_clash context typing.Individual = false
declaration_clash context (typing.Sort s) = is_some (symbol context s) || is_listed context s
declaration_clash context (typing.Symbol f args gives) =
    is_sort context f
    || retyped context (symbol context f) args gives
    || moved context (element_of context (Argument.Plain f)) args gives

-- the fault of a part after the parts before it
abbrev pub part_fault : Context → List Part → Part → Option PartFault
part_fault context before Formless = Some Form
part_fault context before (Declares t) = tried false false false (declaration_clash context t)
part_fault context before (Closes s names) = closure_fault context before s names
part_fault context before (Applies truth p args) = atom_fault context (given_by context before) truth p args
part_fault context before (Equates f args value) = equation_fault context (given_by context before) f args value
part_fault context before (Differs left right) = pair_fault context left right
part_fault context before (AllDiffer args) = distinct_fault context args
part_fault context before SaysNothing = None

-- the first fault of parts after the parts before them
abbrev pub parts_fault : Context → List Part → List Part → Option PartFault
parts_fault context before parts = option_map (λ p. p.1) (first_fault (part_fault context) 0 before parts)

-- the first fault of a statement after the statements before it
abbrev pub statement_fault : Context → List Statement → Statement → Option PartFault
statement_fault context before s = parts_fault context (all_parts before) (parts_of s)

-- the first statement that has a fault, counted from 1
abbrev pub fault_in : Context → List Statement → Option (ℕ × PartFault)
fault_in context statements = first_fault (statement_fault context) 1 [] statements
