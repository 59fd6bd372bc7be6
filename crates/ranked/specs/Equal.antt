-- The value of `==` for ranks, scopes, bodies and finds.
use Rattle.std.specs.Prelude.{Bool}
use Rattle.ranked.specs.declared.rank.Rank.{Rank}
use Rattle.ranked.specs.declared.find.Scope.{Scope}
use Rattle.ranked.specs.declared.find.Body.{Body}
use Rattle.ranked.specs.declared.find.Find.{Find}
use Rattle.ranked.specs.contracts.rank.RankPartialEq.TheImpl as rank_impl
use Rattle.ranked.specs.contracts.find.ScopePartialEq.TheImpl as scope_impl
use Rattle.ranked.specs.contracts.find.BodyPartialEq.TheImpl as body_impl
use Rattle.ranked.specs.contracts.find.FindPartialEq.TheImpl as find_impl

-- whether two ranks are equal by `==`
abbrev pub rank_eq : Rank → Rank → Bool
rank_eq a b = rank_impl.ghosts.eq a b

-- whether two scopes are equal by `==`
abbrev pub scope_eq : Scope → Scope → Bool
scope_eq a b = scope_impl.ghosts.eq a b

-- whether two bodies are equal by `==`
abbrev pub body_eq : Body → Body → Bool
body_eq a b = body_impl.ghosts.eq a b

-- whether two finds are equal by `==`
abbrev pub find_eq : Find → Find → Bool
find_eq a b = find_impl.ghosts.eq a b
