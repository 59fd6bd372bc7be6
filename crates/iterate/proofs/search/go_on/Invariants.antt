use Rattle.std.proofs.Common.{◌≡◌, ℕ, ◌≤◌, List}
use Rattle.dns_text.specs.declared.record.Question.{Question}
use Rattle.iterate.specs.Exchanges.{Exchange}
use Rattle.iterate.specs.Measure.{hunts_left, left_of_search}
use Rattle.dns_text.specs.declared.addr.Addr.{Addr}
use Rattle.iterate.specs.Searching.{IsSearch, IsNextServer, IsOrderly, Turn}
use Rattle.iterate.proofs.search.go_on.Given as goal

abbrev pub invariant-going : goal.invariant-going
invariant-going g l = record {
  same : l.ids ≡ l.fn.ids;
  first : (server : Addr) (rest : List Addr) → IsNextServer l.fn.search server rest → l.current ≡ l.fn.search;
  going : (port : ℕ) (question : Question) (log : List Exchange) → IsSearch port question log l.fn.search → IsOrderly port log l.fn.search Turn.unasked
      → IsSearch port question log l.current × (left_of_search l.current 4 ≤ left_of_search l.fn.search 4) × IsOrderly port log l.current Turn.unasked;
}

abbrev pub decreases-going : goal.decreases-going
decreases-going g l = hunts_left l.current
