-- Lexemes that a printer writes, each before what follows it.
use Rattle.std.proofs.Common.{◌≡◌, ℕ, ◌+◌, true, Some, List, [], ◌∷◌, ◌++◌, length, take, ap, subst, ◌∙◌, arith, length-append}
use Rattle.std.specs.List.{list_all}
use Rattle.std.proofs.lemmas.Bool.{and_parts}
use Rattle.std.proofs.Math.Seq.{drop-append_seam, take-append_seam}
use Rattle.tptp_lex.specs.declared.token.Kind.TheVariants as kind
use Rattle.tptp_lex.specs.declared.token.Lexeme.{Lexeme}
use Rattle.tptp_lex.specs.declared.token.Lexeme.TheVariants as lexeme
use Rattle.nxf_base.specs.Bytes.{is_word_byte, is_lower}
use Rattle.tptp_lex.specs.Front.{front, front_by}
use Rattle.nxf_base.specs.Bytes.{begins_then}
use Rattle.tptp_lex.specs.Shapes.{IsLongest}
use Rattle.tptp_lex.proofs.Classes.{class_lower}
use Rattle.tptp_lex.proofs.Runs.{run_exact, stops}
use Rattle.tptp_lex.proofs.Pieces.{found_longest}

-- what is found, and is as long as s, is s
pub spelled_longest : (k : Lexeme) (s rest : List ℕ) → front (s ++ rest) ≡ Some (k, length s) → IsLongest (s ++ rest) k s rest
spelled_longest k s rest h =
    let long = found_longest (s ++ rest) k (length s) h (omega (arith, length-append s rest)) in
    subst (λ (x : List ℕ). IsLongest (s ++ rest) k x rest) (take-append_seam s rest) (subst (λ (y : List ℕ). IsLongest (s ++ rest) k (take (length s) (s ++ rest)) y) (drop-append_seam s rest) long)

-- a word, before what doesn't go on with it
pub word_longest : (s rest : List ℕ) → begins_then is_lower is_word_byte s ≡ true → stops is_word_byte rest → IsLongest (s ++ rest) (lexeme.Token kind.Word) s rest
unfolding front
word_longest [] rest h stop = absurd cc
word_longest (b ∷ bs) rest h stop =
    let t = and_parts (is_lower b) (list_all is_word_byte bs) h in
    let found : front ((b ∷ bs) ++ rest) ≡ Some (lexeme.Token kind.Word, length (b ∷ bs)) = ap (λ c. front_by c b (bs ++ rest)) (class_lower b t.0) ∙ ap (λ (n : ℕ). Some (lexeme.Token kind.Word, n)) (ap (λ (n : ℕ). 1 + n) (run_exact is_word_byte bs rest t.1 stop) ∙ omega arith) in
    spelled_longest (lexeme.Token kind.Word) (b ∷ bs) rest found
