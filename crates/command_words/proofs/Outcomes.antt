-- Why there is no command.
use Rattle.std.proofs.Common.{◌≡◌, ◌∙◌, Bool, true, false, true≢false, Result, Ok, Err, refl, sym, ap, List, [], ◌∷◌, Some, None, map}
use Rattle.std.specs.Prelude.{if◌then◌else◌, is_some, codes, slice_get, String, string_bytes}
use Rattle.std.specs.Global.{Global}
use Rattle.std.specs.Str.{bytes_eq}
use Rattle.std.specs.Result.{IsErrAnd, IsErrOf}
use Rattle.clap.specs.declared.error.kind.ErrorKind.{ErrorKind}
use Rattle.clap.specs.declared.error.kind.ErrorKind.TheVariants.{OutOfMemory}
use Rattle.command_words.specs.Words.{Text, complete_of, check_of, command_of, ◌>>=◌}
use Rattle.command_words.specs.Said.{words_error}
use Rattle.command_words.specs.declared.command.WordsError.{WordsError}
use Rattle.command_words.specs.declared.command.WordsError.TheVariants.{BadWords, Memory}
use Rattle.command_words.proofs.Forms.{same_from}

memory_is_not_bad : Memory ≡ BadWords → ⊥
memory_is_not_bad e = cc

-- where clap had no memory, the words aren't told bad
pub not_bad : {X : Type 0} (r : Result X WordsError) (kind : ErrorKind) → IsErrAnd r (λ error. error ≡ words_error kind) → kind ≡ OutOfMemory → IsErrOf r BadWords → ⊥
not_bad (Ok x) kind h memory bad = absurd h
not_bad (Err e) kind h memory bad = let same : e ≡ BadWords = cc in memory_is_not_bad (sym (h ∙ ap words_error memory) ∙ same)

-- ---- a first word that is no command's name

differ : (name other : Text) → (name ≡ other → ⊥) → bytes_eq name other ≡ false
differ name other h = go (bytes_eq name other) refl
  where
    go : (b : Bool) → bytes_eq name other ≡ b → b ≡ false
    go true e = absurd (h (same_from name other e))
    go false e = refl

no_reader : (name : Text) (words : List Text) → bytes_eq name (codes "complete") ≡ false → bytes_eq name (codes "check") ≡ false → command_of (name ∷ words) ≡ None
no_reader name words a b = λ i. (if a i then Some complete_of else (if b i then Some check_of else None)) >>= λ read. read words

pub no_command : (words : List (String Global)) (name : String Global) → Some name ≡ slice_get words 0 → (string_bytes name ≡ codes "complete" → ⊥) → (string_bytes name ≡ codes "check" → ⊥) →
    command_of (map string_bytes words) ≡ None
no_command [] name e a b = absurd (true≢false (ap is_some e))
no_command (word ∷ words) name e a b =
    let same : name ≡ word = cc in
    let text : string_bytes name ≡ string_bytes word = ap string_bytes same in
    no_reader (string_bytes word) (map string_bytes words) (differ (string_bytes word) (codes "complete") (λ x. a (text ∙ x))) (differ (string_bytes word) (codes "check") (λ x. b (text ∙ x)))
