-- Octets that may be the reply to a query (RFC 5452, section 9.1).
use Rattle.std.specs.Prelude.{◌≡◌, ℕ, ◌-◌, ◌≤◌, List, length, slice_range, slice_index, map}
use Rattle.std.specs.Char.{to_ascii_lowercase}

-- A query is a header of 12 octets and one question, whose last four octets are its type and its class (RFC 1035, sections 4.1.1 and 4.1.2).
-- The octets may be its reply: they are a response, with its identifier and its question. Only the case of letters in the name may differ.
pub record Fits (query reply : List ℕ) : Type 0 where
  pub asks : 16 ≤ length query
  pub long : length query ≤ length reply
  pub identifier : slice_range reply 0 2 ≡ slice_range query 0 2
  pub response : 128 ≤ slice_index reply 2
  pub questions : slice_range reply 4 6 ≡ slice_range query 4 6
  pub name : map to_ascii_lowercase (slice_range reply 12 (length query - 4)) ≡ map to_ascii_lowercase (slice_range query 12 (length query - 4))
  pub kind : slice_range reply (length query - 4) (length query) ≡ slice_range query (length query - 4) (length query)
