-- Replies of a header alone, or of a header and a question, spell what they are to say.
use Rattle.std.proofs.Common.{◌≡◌, ℕ, ◌+◌, ◌-◌, List, [], ◌∷◌, length, take, refl, ap, arith, length-append}
use Rattle.std.specs.Prelude.{true}
use Rattle.std.specs.Char.{to_ascii_lowercase}
use Rattle.std.proofs.lemmas.List.{length-map, length-take, length-drop}
use Rattle.dns_name.specs.Labels.{IsName, spelled}
use Rattle.dns_text.specs.declared.record.Question.{Question}
use Rattle.dns_wire.specs.declared.message.Head.{Head}
use Rattle.dns_wire.specs.Read.Message.{SpelledMessage}
use Rattle.dns_wire.specs.Server.Replying.{head_alone, cut_reply}
use Rattle.dns_wire.specs.WellFormed.{IsHead}
use Rattle.dns_wire.specs.Write.Header.{header_octets}
use Rattle.dns_wire.specs.Write.Question.{IsQuestionOctets}
use Rattle.dns_wire.specs.Write.Message.{octets_with}
use Rattle.dns_wire.specs.Write.SizeLaws.{length-octets_with}
use Rattle.dns_wire.proofs.WrittenSize.{not_long, as_long}
use Rattle.dns_wire.proofs.WrittenMessage.{message_written, reply_written}

pub head_spelled : (h : Head) → IsHead h → SpelledMessage (header_octets h 0 0 0 0) (head_alone h)
unfolding octets_with header_octets
head_spelled h fits =
    message_written (head_alone h) (record { head = fits; questions = tt; answer = tt; authority = tt; additional = tt })
    (not_long (head_alone h) (omega (arith, length-octets_with [] (head_alone h))))

-- how many octets a question takes
pub length-question : {q : Question} {octets : List ℕ} → IsQuestionOctets octets q → length octets ≡ length (spelled q.owner) + 5
length-question {q} {octets} h =
    omega (arith, ap length h.owner, ap length h.fixed, length-map (take (length octets - 4) octets) to_ascii_lowercase, length-take (length octets - 4) octets, length-drop (length octets - 4) octets, length-append (spelled q.owner) (0 ∷ []))

pub cut_spelled : (h : Head) (q : Question) (octets : List ℕ) → IsHead (record h { tc = true }) → IsName q.owner → IsQuestionOctets octets q → SpelledMessage (octets_with octets (cut_reply h q)) (cut_reply h q)
cut_spelled h q octets fits name is =
    let v = cut_reply h q in
    let size = length-question is in
    reply_written q octets v is
    (record { head = fits; questions = (record { owner = name; kind = is.kind; class = omega arith }, tt); answer = tt; authority = tt; additional = tt })
    refl
    (not_long v (omega (arith, size, name.short, as_long v is refl, length-octets_with octets v)))
