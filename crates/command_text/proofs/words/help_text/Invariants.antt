use Rattle.std.proofs.Common.{◌≡◌, take, map, flat_map}
use Rattle.std.specs.Prelude.{filter, string_bytes}
use Rattle.command_text.specs.Words.{row_now, is_allowed, usage_text}
use Rattle.command_text.proofs.words.help_text.Given as goal

abbrev pub invariant-loop-usage : goal.invariant-loop-usage
invariant-loop-usage l = string_bytes l.out ≡ flat_map usage_text (filter (is_allowed l.channel) (map (λ usage. row_now usage) (take l.usage-index l.usage-items)))
