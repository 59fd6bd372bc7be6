-- The file descriptors of the process.
use Rattle.std.specs.Prelude.{◌≤◌, ℕ, ◌*◌, ◌+◌, ◌-◌}
use Rattle.front_workers.specs.declared.limit.TheConstants.{SPARE_DESCRIPTORS}

-- With at most 16 workers, these and others, there are enough descriptors: for so many exchanges of each of these, for three of every worker, and for 48 others.
abbrev pub SufficeFor : ℕ → ℕ → ℕ → Type 0
SufficeFor workers each descriptors =
    (others : ℕ) → workers + others ≤ 16 → SPARE_DESCRIPTORS ≤ descriptors → each * workers + 3 * (workers + others) + 48 ≤ descriptors

-- If all workers may have so many exchanges each, the workers over TCP may also have so many connections each.
abbrev pub FitBeside : ℕ → ℕ → ℕ → ℕ → ℕ → Type 0
FitBeside connections exchanges udp tcp descriptors =
    exchanges * (udp + tcp) ≤ descriptors - SPARE_DESCRIPTORS → exchanges * (udp + tcp) + connections * tcp ≤ descriptors - SPARE_DESCRIPTORS
