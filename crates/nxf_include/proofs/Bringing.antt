-- The statements of a file, one after another.
use Rattle.std.proofs.Common.{◌≡◌, ℕ, List, [], ◌∷◌, ◌++◌, Option, None, Some, Result, Ok, Err, refl, sym, ap, suc, subst}
use Rattle.std.specs.Prelude.{◌⊎◌, IfSome}
use mathlib.Core.Logic.{inl, inr}
use Rattle.nxf_base.specs.Files.{Files}
use Rattle.nxf_base.specs.Shelf.{Shelf}
use Rattle.nxf_tree.specs.declared.tree.Body.{Body}
use Rattle.nxf_tree.specs.declared.tree.Role.{Role}
use Rattle.nxf_tree.specs.declared.tree.Statement.{Statement}
use Rattle.nxf_tree.specs.declared.tree.Statement.TheVariants.{Annotated, Include}
use Rattle.syntax_definitions.specs.Gathered.{BroughtBefore, Brings, selected, Enters, Visits, Gathers}
use Rattle.syntax_definitions.specs.Refusals.{Meets}
use Rattle.nxf_include.specs.Roots.{KeepEach, files_of}
use Rattle.syntax_definitions.specs.OneAfterAnother.{Step, Then}
use Rattle.syntax_definitions.specs.declared.gather_error.GatherError.{GatherError}
use Rattle.syntax_definitions.specs.declared.gather_error.GatherError.TheVariants.{Deep, Memory, ReadFault}
use Rattle.syntax_definitions.specs.declared.visited.Visited.{Visited}
use Rattle.nxf_include.proofs.Callers.{Keeps-files}
use Rattle.nxf_include.proofs.Steps.{before_none, before_both, before_wider, before_end}

pub visits_deep : (files : Files) (sum : ℕ) (name : List ℕ) → Visits files 0 sum name (Err (Deep name))
unfolding Visits
visits_deep files sum name = refl

pub visits_below : (files : Files) (levels sum : ℕ) (name : List ℕ) (result : Result Visited GatherError) → Then (Enters files sum name) (λ file. Brings (Visits files levels) file.sum file.statements) result → Visits files (suc levels) sum name result
unfolding Visits
visits_below files levels sum name result h = h

-- a result that meets an answer
pub met_ok : {A : Type 0} (told : Option Files) (Answers : Files → Step A) (x : A) → Meets told Answers (Ok x) → IfSome told (λ files. Answers files (Ok x))
met_ok told Answers x (inl h) = h
met_ok told Answers x (inr (inl h)) = absurd (cc)
met_ok told Answers x (inr (inr h)) = absurd (cc)

-- a refusal from outside
pub from_outside : {A B : Type 0} (e : GatherError) → (◌≡◌ {A = Result A GatherError} (Err e) (Err ReadFault)) ⊎ (◌≡◌ {A = Result A GatherError} (Err e) (Err Memory)) → (◌≡◌ {A = Result B GatherError} (Err e) (Err ReadFault)) ⊎ (◌≡◌ {A = Result B GatherError} (Err e) (Err Memory))
from_outside e (inl h) = inl (cc)
from_outside e (inr h) = inr (cc)

-- The whole results in what was brought so far and then what the rest brings.
abbrev pub Underway : Option Files → (Files → Step Visited) → ℕ → List Statement → ℕ → List Statement → Type 0
Underway told Whole levels done sum rest = IfSome told (λ files. (result : Result Visited GatherError) → BroughtBefore done (Brings (Visits files levels) sum rest) result → Whole files result)

pub deep : (told : Option Files) (n sum : ℕ) (name : List ℕ) (e : GatherError) → n ≡ 0 → (e ≡ Deep name) ⊎ (e ≡ Memory) → Meets told (λ files. Visits files n sum name) (Err e)
deep told n sum name e zero_left (inr k) = inr (inr (ap Err k))
deep None n sum name e zero_left (inl k) = inl tt
deep (Some files) n sum name e zero_left (inl k) = inl (subst (λ n. Visits files n sum name (Err e)) (sym zero_left) (subst (λ d. Visits files 0 sum name (Err d)) (sym k) (visits_deep files sum name)))

pub begins : (told : Option Files) (n levels sum : ℕ) (name : List ℕ) (file : Visited) (done rest : List Statement) → n ≡ suc levels → done ≡ [] → rest ≡ file.statements → Meets told (λ files. Enters files sum name) (Ok file) → Underway told (λ files. Visits files n sum name) levels done file.sum rest
begins None n levels sum name file done rest level none all m = tt
begins (Some files) n levels sum name file done rest level none all m = λ result brought.
    let here : BroughtBefore [] (Brings (Visits files levels) file.sum rest) result = subst (λ xs. BroughtBefore xs (Brings (Visits files levels) file.sum rest) result) none brought in
    let rests : Brings (Visits files levels) file.sum file.statements result = subst (λ xs. Brings (Visits files levels) file.sum xs result) all (before_none (Brings (Visits files levels) file.sum rest) result here) in
    subst (λ n. Visits files n sum name result) (sym level) (visits_below files levels sum name result (inl (file, met_ok (Some files) (λ files. Enters files sum name) file m, rests)))

pub begins_not : (told : Option Files) (n levels sum : ℕ) (name : List ℕ) (e : GatherError) → n ≡ suc levels → Meets told (λ files. Enters files sum name) (Err e) → Meets told (λ files. Visits files n sum name) (Err e)
begins_not told n levels sum name e level (inr h) = inr h
begins_not None n levels sum name e level (inl h) = inl tt
begins_not (Some files) n levels sum name e level (inl h) = inl (subst (λ n. Visits files n sum name (Err e)) (sym level) (visits_below files levels sum name (Err e) (inr (e, h, refl))))

-- the same by the files from before
pub met_first : {A : Type 0} (xs ys : List Shelf) (Answers : Files → Step A) (result : Result A GatherError) → KeepEach xs ys → Meets (files_of ys) Answers result → Meets (files_of xs) Answers result
met_first xs ys Answers result keeps m = subst (λ told. Meets told Answers result) (Keeps-files xs ys keeps) m

module _ (Whole : Files → Step Visited) (levels : ℕ) (done : List Statement) (sum : ℕ) (all rest : List Statement) where
  pub adds_annotated : (told : Option Files) (name : List ℕ) (role : Role) (body : Body) (now : List Statement) → Underway told Whole levels done sum all → all ≡ Annotated name role body ∷ rest → now ≡ done ++ Annotated name role body ∷ [] → Underway told Whole levels now sum rest
  adds_annotated None name role body now h a e = tt
  adds_annotated (Some files) name role body now h a e = λ result brought.
      let here : BroughtBefore (done ++ Annotated name role body ∷ []) (Brings (Visits files levels) sum rest) result = subst (λ xs. BroughtBefore xs (Brings (Visits files levels) sum rest) result) e brought in
      h result (subst (λ xs. BroughtBefore done (Brings (Visits files levels) sum xs) result) (sym a) (before_both done (Annotated name role body ∷ []) (Brings (Visits files levels) sum rest) result here))

  pub ends : (told : Option Files) → Underway told Whole levels done sum all → all ≡ [] → Meets told Whole (Ok (record { statements = done; sum = sum }))
  ends None h a = inl tt
  ends (Some files) h a = inl (h (Ok (record { statements = done; sum = sum })) (subst (λ xs. BroughtBefore done (Brings (Visits files levels) sum xs) (Ok (record { statements = done; sum = sum }))) (sym a) (before_end done sum)))

  module _ (file : List ℕ) (names : Option (List (List ℕ))) where
    -- the first statement is an include: what the rest brings, by the part that it brings
    at_include : (files : Files) (result : Result Visited GatherError) → Underway (Some files) Whole levels done sum all → all ≡ Include file names ∷ rest → BroughtBefore done (Brings (Visits files levels) sum (Include file names ∷ rest)) result → Whole files result
    at_include files result h a brought = h result (subst (λ xs. BroughtBefore done (Brings (Visits files levels) sum xs) result) (sym a) brought)

    pub adds_included : (told : Option Files) (part : Visited) (kept now : List Statement) → Underway told Whole levels done sum all → all ≡ Include file names ∷ rest → Meets told (λ files. Visits files levels sum file) (Ok part) → selected file names part.statements ≡ Ok kept → now ≡ done ++ kept → Underway told Whole levels now part.sum rest
    adds_included None part kept now h a m k e = tt
    adds_included (Some files) part kept now h a m k e = λ result brought.
        let Rest : Step Visited = Brings (Visits files levels) part.sum rest in
        let here : BroughtBefore (done ++ kept) Rest result = subst (λ xs. BroughtBefore xs Rest result) e brought in
        at_include files result h a
        (before_wider done (BroughtBefore kept Rest) (Brings (Visits files levels) sum (Include file names ∷ rest))
        (λ r b. inl (part, met_ok (Some files) (λ files. Visits files levels sum file) part m, inl (kept, sym k, b)))
        result (before_both done kept Rest result here))

    pub refuses_included : (told : Option Files) (e : GatherError) → Underway told Whole levels done sum all → all ≡ Include file names ∷ rest → Meets told (λ files. Visits files levels sum file) (Err e) → Meets told Whole (Err e)
    refuses_included told e h a (inr m) = inr m
    refuses_included None e h a (inl m) = inl tt
    refuses_included (Some files) e h a (inl m) = inl (at_include files (Err e) h a (inr (e, inr (e, m, refl), refl)))

    pub refuses_selected : (told : Option Files) (part : Visited) (e : GatherError) → Underway told Whole levels done sum all → all ≡ Include file names ∷ rest → Meets told (λ files. Visits files levels sum file) (Ok part) → (selected file names part.statements ≡ Err e) ⊎ (e ≡ Memory) → Meets told Whole (Err e)
    refuses_selected told part e h a m (inr k) = inr (inr (ap Err k))
    refuses_selected None part e h a m (inl k) = inl tt
    refuses_selected (Some files) part e h a m (inl k) =
        inl (at_include files (Err e) h a (inr (e, inl (part, met_ok (Some files) (λ files. Visits files levels sum file) part m, inr (e, sym k, refl)), refl)))

-- ---- the gathered file

pub gathers : (told : Option Files) (name : List ℕ) (whole : Visited) → Meets told (λ files. Visits files 17 0 name) (Ok whole) → Meets told (λ files. Gathers files name) (Ok (record { statements = whole.statements }))
gathers None name whole m = inl tt
gathers (Some files) name whole m = inl (inl (whole, met_ok (Some files) (λ files. Visits files 17 0 name) whole m, refl))

pub gathers_not : (told : Option Files) (name : List ℕ) (e : GatherError) → Meets told (λ files. Visits files 17 0 name) (Err e) → Meets told (λ files. Gathers files name) (Err e)
gathers_not told name e (inr m) = inr (from_outside e m)
gathers_not None name e (inl m) = inl tt
gathers_not (Some files) name e (inl m) = inl (inr (e, m, refl))
