use Rattle.std.proofs.Common.{◌≡◌, ◌++◌, ◌∷◌, ◌∙◌, codes, List, ℕ, ap, append_assoc}
use Rattle.std.proofs.lemmas.Result.{on_ok_weaker}
use Rattle.nxf_run.proofs.message.add_no_such_name.Goals as goal

joined : (line words file name : List ℕ) → line ++ words ++ 32 ∷ file ++ 32 ∷ name ≡ line ++ (words ++ 32 ∷ (file ++ 32 ∷ name))
joined line words file name = append_assoc (line ++ words) (32 ∷ file) (32 ∷ name) ∙ append_assoc line words (32 ∷ (file ++ 32 ∷ name))

pub returns : goal.returns
returns c =
    on_ok_weaker c.add_next.result (λ e. e ∙ ap (λ (xs : List ℕ). xs ++ 32 ∷ c.args.name.now) c.in_ok-add_after.ensures ∙ joined c.args.line.now.items (codes "no such name") c.args.file.now c.args.name.now) c.add_next.ensures
