use Rattle.std.proofs.Common.{◌≡◌, List, length, inl, inr, sym, ap, ◌∙◌, subst, refl, arith}
use Rattle.std.specs.List.{Contains}
use Rattle.dns_name.specs.Labels.{Labels}
use Rattle.dns_text.specs.declared.addr.Addr.{Addr}
use Rattle.history.specs.declared.servers.Servers.{Servers}
use Rattle.iterate.specs.Searching.{AreDistinct}
use Rattle.iterate.proofs.Lists.{none_within}
use Rattle.iterate.proofs.search.begin_hunt.Goals as goal

pub returns : goal.returns
returns c =
    let same : c.as_slice.result.now ≡ c.args.servers.addrs = c.as_slice.ensures ∙ ap (λ (s : Servers). s.addrs) c.get-list.ensures in
    let missing : c.as_slice-missing.result.now ≡ c.args.servers.missing = c.as_slice-missing.ensures ∙ ap (λ (s : Servers). s.missing) c.get-list.ensures in
    record {
      servers = refl;
      asked = refl;
      sought = refl;
      all = λ addr is. c.in_ok-addrs.ensures.all addr (subst (λ (xs : List Addr). Contains xs addr) (sym same) is);
      only = λ addr is. elim (c.in_ok-addrs.ensures.only addr is) [
        | inl old ↦ absurd (none_within c.new.result.items addr c.new.ensures.items old)
        | inr new ↦ subst (λ (xs : List Addr). Contains xs addr) same new
      ];
      distinct = c.in_ok-addrs.ensures.distinct (subst (λ (xs : List Addr). AreDistinct xs) (sym c.new.ensures.items) tt);
      countable = let many = ap (λ (xs : List Labels). length xs) missing in omega (arith, many);
    }
