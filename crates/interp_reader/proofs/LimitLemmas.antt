-- The last two steps: the limits, and completeness.
use Rattle.std.proofs.Common.{◌≡◌, ◌≤◌, ◌⊎◌, inl, inr, ℕ, Bool, true, false, List, [], nat_lt, Option, Some, Result, Err, refl, ap, ◌∙◌, sym, subst, arith}
use Rattle.std.specs.Prelude.{◌&&◌, not, codes, is_some, if◌then◌else◌}
use Rattle.std.proofs.lemmas.Bool.{le-ltb, lt-ltb}
use Rattle.nxf_base.specs.declared.status.InterpKind.TheVariants as kind
use Rattle.nxf_tree.specs.declared.tree.TableEntry.{TableEntry}
use Rattle.nxf_tree.specs.declared.tree.ClassicalSignature.{ClassicalSignature}
use Rattle.nxf_tree.specs.Names.{actual_name}
use Rattle.nxf_tree.specs.Rows.{size_at}
use Rattle.nxf_tree.specs.Structures.{table_shapes}
use Rattle.fin_struct.specs.Limits.{cells_in, cells_of}
use Rattle.fin_struct.specs.RowLists.{shapes_of}
use Rattle.fin_struct.specs.StructureTables.{StructureTables, IsStructure, blank_structure}
use Rattle.fin_struct.proofs.CallerLemmas.{shapes_blank}
use Rattle.interpretation_definitions.specs.declared.error.InterpError.{InterpError}
use Rattle.interpretation_definitions.specs.declared.error.InterpError.TheVariants as error
use Rattle.interpretation_definitions.specs.Context.{actual_entry, symbols_of}
use Rattle.interpretation_definitions.specs.Interpretation.{GivenRows, completed, incomplete_from, is_incomplete, within_limits}
use Rattle.interp_reader.specs.Refusals.{Refuses, RefusesAs, RefusesSymbol}
use Rattle.interp_reader.specs.steps.Filling.{has_place, row_value, rows_in}

-- what is left where the worlds and the cells are few
abbrev pub after_limits : List ℕ → GivenRows → ClassicalSignature → Result StructureTables InterpError
after_limits sizes given csig = completed sizes given csig.tables (incomplete_from 0 sizes given (symbols_of csig))

abbrev cells_tried : List ℕ → GivenRows → ClassicalSignature → Result StructureTables InterpError
cells_tried sizes given csig =
    if nat_lt 4194304 (cells_of csig sizes) then Err (error.TooBig (cells_of csig sizes)) else after_limits sizes given csig

abbrev worlds_tried : List ℕ → GivenRows → ClassicalSignature → Bool → Result StructureTables InterpError
worlds_tried sizes given csig many = if many then Err (error.TooManyWorlds (size_at sizes 0)) else cells_tried sizes given csig

few_worlds : (sizes : List ℕ) (given : GivenRows) (csig : ClassicalSignature) → size_at sizes 0 ≤ 65535 → within_limits sizes given csig ≡ cells_tried sizes given csig
few_worlds sizes given csig few = ap (worlds_tried sizes given csig) (le-ltb 65535 (size_at sizes 0) few)

few_cells : (sizes : List ℕ) (given : GivenRows) (csig : ClassicalSignature) → cells_of csig sizes ≤ 4194304 → cells_tried sizes given csig ≡ after_limits sizes given csig
few_cells sizes given csig few =
    ap (λ (b : Bool). if b then Err (error.TooBig (cells_of csig sizes)) else after_limits sizes given csig) (le-ltb 4194304 (cells_of csig sizes) few)

-- a structure was made, so it is within the limits
pub limits_kept : (sizes : List ℕ) (given : GivenRows) (csig : ClassicalSignature) (made : StructureTables) → made ≡ blank_structure csig sizes → IsStructure made
    → within_limits sizes given csig ≡ after_limits sizes given csig
limits_kept sizes given csig made is within =
    let worlds = ap (λ (s : StructureTables). size_at s.sizes 0) is in
    let cells = ap (λ (s : StructureTables). cells_in (shapes_of s.tables)) is ∙ ap cells_in (shapes_blank (table_shapes sizes csig.tables)) in
    few_worlds sizes given csig (omega (arith, worlds, within.within.few_worlds)) ∙ few_cells sizes given csig (omega (arith, cells, within.within.few_cells))

-- the refusal of a shape is that of the limits
pub limits_refuse : (sizes : List ℕ) (given : GivenRows) (csig : ClassicalSignature) (e : InterpError) → RefusesAs csig sizes e → Refuses (within_limits sizes given csig) e
limits_refuse sizes given csig (error.Kind k) h = absurd h
limits_refuse sizes given csig (error.TooManyWorlds n) h =
    ap (worlds_tried sizes given csig) (lt-ltb 65535 (size_at sizes 0) h.1) ∙ ap (λ m. Err (error.TooManyWorlds m)) (sym h.0)
limits_refuse sizes given csig (error.TooBig n) h =
    few_worlds sizes given csig h.1
    ∙ ap (λ (b : Bool). if b then Err (error.TooBig (cells_of csig sizes)) else after_limits sizes given csig) (lt-ltb 4194304 (cells_of csig sizes) h.2)
    ∙ ap (λ m. Err (error.TooBig m)) (sym h.0)
limits_refuse sizes given csig error.Memory h = tt

-- the refusal of an incomplete symbol is that of the last step
pub symbol_refuses : (sizes : List ℕ) (given : GivenRows) (tables : List TableEntry) (found : Option (List ℕ)) (e : InterpError) → RefusesSymbol found e → Refuses (completed sizes given tables found) e
symbol_refuses sizes given tables found (error.Kind (kind.Form k)) h = absurd h
symbol_refuses sizes given tables found (error.Kind (kind.UnknownElement k)) h = absurd h
symbol_refuses sizes given tables found (error.Kind (kind.UnknownSymbol k)) h = absurd h
symbol_refuses sizes given tables found (error.Kind (kind.Clash k)) h = absurd h
symbol_refuses sizes given tables found (error.Kind (kind.Incomplete text)) h = ap (completed sizes given tables) h
symbol_refuses sizes given tables found (error.TooManyWorlds n) h = absurd h
symbol_refuses sizes given tables found (error.TooBig n) h = absurd h
symbol_refuses sizes given tables found error.Memory h = tt

-- `mk_actual` is half given where its row is missing, and some row is there
actual_half : (entries : List (List ℕ × ℕ)) (sizes : List ℕ) → is_incomplete sizes (rows_in entries) 0 actual_entry ≡ has_place entries 0 && not (is_some (row_value entries 0 []))
actual_half entries sizes = ap (λ b. has_place entries 0 && not b) (alone (is_some (row_value entries 0 [])))
  where
    alone : (b : Bool) → b && true ≡ b
    alone true = refl
    alone false = refl

pub actual_found : (entries : List (List ℕ × ℕ)) (sizes : List ℕ) (csig : ClassicalSignature) → has_place entries 0 ≡ true → is_some (row_value entries 0 []) ≡ false
    → incomplete_from 0 sizes (rows_in entries) (symbols_of csig) ≡ Some actual_name
actual_found entries sizes csig any missing =
    ap (λ b. if b then Some actual_name else incomplete_from 1 sizes (rows_in entries) csig.tables)
    (actual_half entries sizes ∙ ap (λ b. b && not (is_some (row_value entries 0 []))) any ∙ ap not missing)

pub actual_next : (entries : List (List ℕ × ℕ)) (sizes : List ℕ) (csig : ClassicalSignature) → has_place entries 0 && not (is_some (row_value entries 0 [])) ≡ false
    → incomplete_from 0 sizes (rows_in entries) (symbols_of csig) ≡ incomplete_from 1 sizes (rows_in entries) csig.tables
actual_next entries sizes csig none =
    ap (λ b. if b then Some actual_name else incomplete_from 1 sizes (rows_in entries) csig.tables) (actual_half entries sizes ∙ none)

-- the refusal of `mk_actual`
pub actual_refused : (entries : List (List ℕ × ℕ)) (sizes : List ℕ) (csig : ClassicalSignature) (e : InterpError) → has_place entries 0 ≡ true → is_some (row_value entries 0 []) ≡ false
    → RefusesSymbol (Some (codes "mk_actual")) e → RefusesSymbol (incomplete_from 0 sizes (rows_in entries) (symbols_of csig)) e
unfolding actual_name
actual_refused entries sizes csig e any missing h = subst (λ o. RefusesSymbol o e) (sym (actual_found entries sizes csig any missing)) h

neither : (any some : Bool) → ((any ≡ true) × (some ≡ true)) ⊎ (any ≡ false) → any && not some ≡ false
neither true true h = refl
neither true false (inl h) = cc
neither true false (inr h) = cc
neither false some h = refl

-- `mk_actual` is not half given, as two tests found
pub actual_settled : (any some tested there : Bool) → any ≡ tested → there ≡ some → ((tested ≡ true) × (there ≡ true)) ⊎ (tested ≡ false) → any && not some ≡ false
actual_settled any some tested there a s (inl h) = neither any some (inl (a ∙ h.0, sym s ∙ h.1))
actual_settled any some tested there a s (inr h) = neither any some (inr (a ∙ h))
