use Rattle.std.proofs.Common.{◌≡◌, ℕ, ◌<◌, List, Some, sym, subst}
use Rattle.std.specs.Prelude.{slice_index}
use Rattle.std.proofs.lemmas.Result.{on_ok_weaker}
use Rattle.dns_name.specs.ResultLaws.{on_ok}
use Rattle.dns_text.specs.declared.record.Data.{Data}
use Rattle.dns_text.specs.Data.{data_in, data_text, HasForm}
use Rattle.dns_text.proofs.DataLaws.{a_again, aaaa_again, one_again, mx_again, soa_again, srv_again, opaque_again, txt_again}
use Rattle.dns_text.proofs.data.push_data.Goals as goal

abbrev Again : Data → Type 0
Again body = (kind : ℕ) → HasForm kind body → data_in kind (data_text body) ≡ Some body

pub returns-in-A-clause-again : goal.returns-in-A-clause-again
returns-in-A-clause-again c = on_ok _ _ (subst Again (sym c.in-A.is) (λ kind. a_again kind c.in-A.octets c.push_ipv4.ensures.octets))

pub returns-in-Aaaa-clause-again : goal.returns-in-Aaaa-clause-again
returns-in-Aaaa-clause-again c = on_ok _ _ (subst Again (sym c.in-Aaaa.is) (λ kind. aaaa_again kind c.in-Aaaa.octets c.push_ipv6.ensures.octets))

pub returns-in-One-clause-again : goal.returns-in-One-clause-again
returns-in-One-clause-again c = on_ok _ _ (subst Again (sym c.in-One.is) (λ kind. one_again kind _ c.push_name.ensures.name))

pub returns-in-Mx-clause-again : goal.returns-in-Mx-clause-again
returns-in-Mx-clause-again c =
    on_ok_weaker c.push_mx.result (λ fits. subst Again (sym c.in-Mx.is) (λ kind. mx_again kind c.in-Mx.preference _ fits.0 fits.1)) c.push_mx.ensures.fits

pub returns-in_ok-push_names-in-Soa-clause-again : goal.returns-in_ok-push_names-in-Soa-clause-again
returns-in_ok-push_names-in-Soa-clause-again c =
    let names = c.in_ok-push_names-in-Soa.ensures.names in
    let fits = c.push_soa_numbers.ensures.bounds in
    on_ok _ _ (subst Again (sym c.in-Soa.is) (λ kind. soa_again kind _ _ c.in-Soa.serial c.in-Soa.refresh c.in-Soa.retry c.in-Soa.expire c.in-Soa.minimum names.0 names.1 fits.0 fits.1 fits.2 fits.3 fits.4))

pub returns-in-Srv-clause-again : goal.returns-in-Srv-clause-again
returns-in-Srv-clause-again c =
    on_ok_weaker c.push_srv.result (λ fits. subst Again (sym c.in-Srv.is) (λ kind. srv_again kind c.in-Srv.priority c.in-Srv.weight c.in-Srv.port _ fits.0 fits.1 fits.2 fits.3)) c.push_srv.ensures.fits

pub returns-in-Opaque-clause-again : goal.returns-in-Opaque-clause-again
returns-in-Opaque-clause-again c = on_ok _ _ (subst Again (sym c.in-Opaque.is) (λ kind. opaque_again kind _ (subst (λ (x : List ℕ). (i : ℕ) → slice_index x i < 256) c.as_slice.ensures c.push_octets.ensures.octets)))

pub returns-in-Txt-clause-again : goal.returns-in-Txt-clause-again
returns-in-Txt-clause-again c = on_ok _ _ (subst Again (sym c.in-Txt.is) (λ kind. txt_again kind _ c.push_strings.ensures.each))
