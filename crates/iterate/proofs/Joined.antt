-- A set of addresses beside a list of them, with one address more.
use Rattle.std.proofs.Common.{◌≡◌, ◌⊎◌, ◌↔◌, ℕ, Bool, not, refl, true, false, List, [], ◌∷◌, ◌++◌, cond, sym, ap, ◌∙◌, subst, inl, inr}
use Rattle.std.specs.BTreeSet.{BTreeSet, contains, Updates}
use Rattle.std.specs.Cmp.{Equal-is, IsTotalOrder}
use Rattle.std.specs.Cmp.Lexicographic.{slice_cmp}
use Rattle.std.specs.List.{Contains}
use Rattle.std.specs.Ordering.{is_eq, nat_cmp}
use Rattle.std.proofs.lemmas.Bool.{cases_Bool}
use Rattle.std.proofs.lemmas.Cmp.{nat_cmp_total, nat_list_cmp_total, on_total, then_total, tied_itself}
use Rattle.std.proofs.lemmas.List.Elements.{Contains-append_left, Contains-push, Contains-push_cases}
use Rattle.std.proofs.lemmas.Map.Lookups.{CmpEqualImpliesEq, exact_bytes, exact_pairs, exact_unsigned}
use Rattle.dns_text.specs.declared.addr.Addr.{Addr}
use Rattle.dns_text.specs.declared.addr.Ip.{Ip}
use Rattle.dns_text.specs.declared.addr.Ip.TheVariants.{V4, V6}
use Rattle.iterate.specs.declared.joining.AddrSet.{AddrSet}
use Rattle.iterate.specs.Joining.{AreAmong, Notes, has_addr, has_ip, port_cmp}

port_exact : CmpEqualImpliesEq port_cmp
port_exact = exact_pairs nat_cmp (slice_cmp nat_cmp) exact_unsigned exact_bytes

port_total : IsTotalOrder port_cmp
port_total = then_total (on_total (λ (p : ℕ × List ℕ). p.0) nat_cmp_total) (on_total (λ (p : ℕ × List ℕ). p.1) nat_list_cmp_total)

-- what a set of ports with octets has, with one more
added : (old new : BTreeSet (ℕ × List ℕ)) (one q : ℕ × List ℕ) → Updates port_cmp old new one true → (contains port_cmp new q ≡ true) ↔ ((contains port_cmp old q ≡ true) ⊎ (one ≡ q))
added old new one q updates = (
  λ has. elim (cases_Bool (is_eq (port_cmp one q))) [
    | inl hit ↦ inr (port_exact one q ((Equal-is _).0 hit))
    | inr miss ↦ inl (sym (ap (λ b. cond b true (contains port_cmp old q)) miss) ∙ sym (updates.0 q) ∙ has)
  ],
  λ either. updates.0 q ∙ elim (cases_Bool (is_eq (port_cmp one q))) [
    | inl hit ↦ ap (λ b. cond b true (contains port_cmp old q)) hit
    | inr miss ↦ ap (λ b. cond b true (contains port_cmp old q)) miss ∙ elim either [
      | inl before ↦ before
      | inr this ↦
          let itself : is_eq (port_cmp one q) ≡ true = subst (λ (k : ℕ × List ℕ). is_eq (port_cmp one k) ≡ true) this (ap is_eq (tied_itself port_total one)) in
          let e : ⊥ = cc in absurd e
    ]
  ],
)

abbrev octets_of : Ip → List ℕ
octets_of (V4 octets) = octets
octets_of (V6 octets) = octets

module _ (old new : AddrSet) (port : ℕ) (octets : List ℕ) where
  noted_v4 : new.v6 ≡ old.v6 → Updates port_cmp old.v4 new.v4 (port, octets) true → (p : ℕ) (ip : Ip)
      → (has_ip new p ip ≡ true) ↔ ((has_ip old p ip ≡ true) ⊎ ((V4 octets ≡ ip) × (port ≡ p)))
  noted_v4 same updates p (V4 xs) =
      let both = added old.v4 new.v4 (port, octets) (p, xs) updates in (
        λ has. elim (both.0 has) [
          | inl before ↦ inl before
          | inr this ↦ inr (ap (λ (k : ℕ × List ℕ). V4 k.1) this, ap (λ (k : ℕ × List ℕ). k.0) this)
        ],
        λ either. both.1 (elim either [
          | inl before ↦ inl before
          | inr this ↦ inr (ap (λ (n : ℕ). (n, octets)) this.1 ∙ ap (λ (ys : List ℕ). (p, ys)) (ap octets_of this.0))
        ]),
      )
  noted_v4 same updates p (V6 xs) = (
    λ has. inl (ap (λ (s : BTreeSet (ℕ × List ℕ)). contains port_cmp s (p, xs)) (sym same) ∙ has),
    λ either. elim either [
      | inl before ↦ ap (λ (s : BTreeSet (ℕ × List ℕ)). contains port_cmp s (p, xs)) same ∙ before
      | inr this ↦ let other = this.0 in let e : ⊥ = cc in absurd e
    ],
  )

  noted_v6 : new.v4 ≡ old.v4 → Updates port_cmp old.v6 new.v6 (port, octets) true → (p : ℕ) (ip : Ip)
      → (has_ip new p ip ≡ true) ↔ ((has_ip old p ip ≡ true) ⊎ ((V6 octets ≡ ip) × (port ≡ p)))
  noted_v6 same updates p (V4 xs) = (
    λ has. inl (ap (λ (s : BTreeSet (ℕ × List ℕ)). contains port_cmp s (p, xs)) (sym same) ∙ has),
    λ either. elim either [
      | inl before ↦ ap (λ (s : BTreeSet (ℕ × List ℕ)). contains port_cmp s (p, xs)) same ∙ before
      | inr this ↦ let other = this.0 in let e : ⊥ = cc in absurd e
    ],
  )
  noted_v6 same updates p (V6 xs) =
      let both = added old.v6 new.v6 (port, octets) (p, xs) updates in (
        λ has. elim (both.0 has) [
          | inl before ↦ inl before
          | inr this ↦ inr (ap (λ (k : ℕ × List ℕ). V6 k.1) this, ap (λ (k : ℕ × List ℕ). k.0) this)
        ],
        λ either. both.1 (elim either [
          | inl before ↦ inl before
          | inr this ↦ inr (ap (λ (n : ℕ). (n, octets)) this.1 ∙ ap (λ (ys : List ℕ). (p, ys)) (ap octets_of this.0))
        ]),
      )

-- an address by its parts
of_parts : (addr other : Addr) → addr.ip ≡ other.ip → addr.port ≡ other.port → addr ≡ other
of_parts addr other ips ports =
    let whole : Ip → ℕ → Addr = λ ip port. record { ip = ip; port = port } in
    ap (λ (ip : Ip). whole ip addr.port) ips ∙ ap (λ (port : ℕ). whole other.ip port) ports

pub note_v4 : (old new : AddrSet) (addr : Addr) (octets : List ℕ) → addr.ip ≡ V4 octets → new.v6 ≡ old.v6 → Updates port_cmp old.v4 new.v4 (addr.port, octets) true → Notes old new addr
note_v4 old new addr octets ip same updates other =
    let both = noted_v4 old new addr.port octets same updates other.port other.ip in (
      λ has. elim (both.0 has) [
        | inl before ↦ inl before
        | inr this ↦ inr (of_parts addr other (ip ∙ this.0) this.1)
      ],
      λ either. both.1 (elim either [
        | inl before ↦ inl before
        | inr this ↦ inr (sym ip ∙ ap (λ (a : Addr). a.ip) this, ap (λ (a : Addr). a.port) this)
      ]),
    )

pub note_v6 : (old new : AddrSet) (addr : Addr) (octets : List ℕ) → addr.ip ≡ V6 octets → new.v4 ≡ old.v4 → Updates port_cmp old.v6 new.v6 (addr.port, octets) true → Notes old new addr
note_v6 old new addr octets ip same updates other =
    let both = noted_v6 old new addr.port octets same updates other.port other.ip in (
      λ has. elim (both.0 has) [
        | inl before ↦ inl before
        | inr this ↦ inr (of_parts addr other (ip ∙ this.0) this.1)
      ],
      λ either. both.1 (elim either [
        | inl before ↦ inl before
        | inr this ↦ inr (sym ip ∙ ap (λ (a : Addr). a.ip) this, ap (λ (a : Addr). a.port) this)
      ]),
    )

-- ---- beside a list

-- The list has the address too.
pub noted_new : (old new : AddrSet) (addrs : List Addr) (addr : Addr) → AreAmong old addrs → Notes old new addr → AreAmong new (addrs ++ addr ∷ [])
noted_new old new addrs addr among noted other = (
  λ has. elim ((noted other).0 has) [
    | inl before ↦ Contains-append_left addrs (addr ∷ []) other ((among other).0 before)
    | inr this ↦ subst (λ (a : Addr). Contains (addrs ++ addr ∷ []) a) this (Contains-push addrs addr)
  ],
  λ is. (noted other).1 (elim (Contains-push_cases addrs addr other is) [
    | inl before ↦ inl ((among other).1 before)
    | inr this ↦ inr this
  ]),
)

-- The list had it.
pub noted_old : (old new : AddrSet) (addrs : List Addr) (addr : Addr) → has_addr old addr ≡ true → AreAmong old addrs → Notes old new addr → AreAmong new addrs
noted_old old new addrs addr had among noted other = (
  λ has. elim ((noted other).0 has) [
    | inl before ↦ (among other).0 before
    | inr this ↦ subst (λ (a : Addr). Contains addrs a) this ((among addr).0 had)
  ],
  λ is. (noted other).1 (inl ((among other).1 is)),
)

-- The list lacks what the set lacks.
pub lacks : (old : AddrSet) (addrs : List Addr) (addr : Addr) → has_addr old addr ≡ false → AreAmong old addrs → Contains addrs addr → ⊥
lacks old addrs addr not_had among is = let had = (among addr).1 is in let e : ⊥ = cc in absurd e

-- What was added just now was not there.
pub newly : (added had : Bool) → added ≡ true → added ≡ not had → had ≡ false
newly added false is told = refl
newly added true is told = let e : ⊥ = cc in absurd e
