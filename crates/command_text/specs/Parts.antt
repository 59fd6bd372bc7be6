-- Words that many commands have.
use Rattle.std.specs.Prelude.{ℕ, Option, Some, None, Result, Ok, Err, List, [], ◌∷◌}
use Rattle.dns_name.specs.Labels.{Labels}
use Rattle.dns_name.specs.Options.{◌>>=◌ as ◌>>=?◌}
use Rattle.dns_name.specs.Results.{◌>>=◌, or_fault, result_map}
use Rattle.dns_text.specs.declared.record.Question.{Question}
use Rattle.dns_text.specs.Word.{next_word}
use Rattle.dns_text.specs.Kind.{type_in}
use Rattle.dns_text.specs.Field.{named}
use Rattle.command_text.specs.declared.fault.LineFault.{LineFault}
use Rattle.command_text.specs.declared.fault.LineFault.TheVariants.{Missing, BadName, BadType, BadData}

-- The next word, which must be there, and the text after it.
abbrev pub word_in : List ℕ → Result (List ℕ × List ℕ) LineFault
word_in text = or_fault Missing (next_word text)

-- Fails if a word is left.
abbrev pub nothing_in : Option (List ℕ × List ℕ) → Result (Unit {0}) LineFault
nothing_in None = Ok tt
nothing_in (Some word) = Err BadData

-- Fails if a word is left in the text.
abbrev pub ends : List ℕ → Result (Unit {0}) LineFault
ends text = nothing_in (next_word text)

-- The words NAME TYPE, and the text after them.
pub record QuestionWords : Type 0 where
  pub name : List ℕ
  pub kind : List ℕ
  pub rest : List ℕ

-- Takes the words NAME TYPE from a text.
unfoldable pub question_words : List ℕ → Result QuestionWords LineFault
question_words text = do
  name ← word_in text
  kind ← word_in name.1
  Ok (record { name = name.0; kind = kind.0; rest = kind.1 })

-- Fails if one of the words NAME TYPE is missing.
unfoldable pub needs_question : List ℕ → Result (Unit {0}) LineFault
needs_question text = result_map (λ words. tt) (question_words text)

-- The question that these words ask, or the first fault from the left.
unfoldable pub question_of : QuestionWords → Result Question LineFault
question_of words = do
  owner ← or_fault BadName (named words.name)
  kind ← or_fault BadType (type_in words.kind)
  end ← ends words.rest
  Ok (record { owner = owner; kind = kind })

-- NAME TYPE and no more.
unfoldable pub question_in : List ℕ → Result Question LineFault
question_in text = question_words text >>= question_of

-- The name that a word writes, with no word after it.
unfoldable pub name_of : List ℕ × List ℕ → Result Labels LineFault
name_of word = do
  name ← or_fault BadName (named word.0)
  end ← ends word.1
  Ok name

-- NAME and no more.
unfoldable pub only_name : List ℕ → Result Labels LineFault
only_name text = word_in text >>= name_of

-- The values of the texts, if each has one.
unfoldable pub each_in : {A : Type 0} → (List ℕ → Option A) → List (List ℕ) → Option (List A)
each_in read [] = Some []
each_in read (text ∷ texts) = read text >>=? λ x. each_in read texts >>=? λ others. Some (x ∷ others)
