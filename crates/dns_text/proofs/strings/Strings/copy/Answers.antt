use Rattle.dns_text.proofs.strings.Strings.copy.Goals as goal

pub of-requires : goal.of-requires
of-requires c = rw c.deref.ensures.value c.self.invariant.spell
