use Rattle.dns_text.proofs.SpelledLaws.{sized_if_some}
use Rattle.dns_text.proofs.record.Data.is_sized.Goals as goal

pub returns-in-Txt : goal.returns-in-Txt
returns-in-Txt c = rw (c.in-Txt.is, c.is_empty.ensures) (sized_if_some _ _ c.octets.ensures.value c.octets.ensures.each)
