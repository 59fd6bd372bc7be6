-- Values that `==` calls equal are the same, and each value is equal to itself: lemmas for this crate and those above.
use Rattle.std.proofs.Common.{◌≡◌, ℕ, true, eqb, eq-eqb, List, refl, ap, ◌∙◌}
use Rattle.std.proofs.lemmas.Bool.{and_parts, false≢true, eqb-true}
use Rattle.std.proofs.lemmas.Slice.Eq.{bytes_eq-Decides, slice_eq-Decides}
use Rattle.std.specs.Cmp.Derive.{both_true}
use Rattle.dns_name.specs.Labels.{Labels}
use Rattle.dns_name.specs.Order.{name_eq_exact, name_eq_itself}
use Rattle.dns_text.specs.declared.record.Data.{Data}
use Rattle.dns_text.specs.declared.record.Data.TheVariants.{A, Aaaa, One, Mx, Soa, Txt, Srv, Opaque}
use Rattle.dns_text.specs.declared.record.Question.{Question}
use Rattle.dns_text.specs.declared.record.Record.{Record}
use Rattle.dns_text.specs.declared.addr.Addr.{Addr}
use Rattle.dns_text.specs.declared.addr.Ip.{Ip}
use Rattle.dns_text.specs.declared.addr.Ip.TheVariants.{V4, V6}
use Rattle.dns_text.specs.Equal.{data_eq, question_eq, record_eq, ip_eq, addr_eq}

a_exact : (x0 : List ℕ) (b : Data) → data_eq (A x0) b ≡ true → A x0 ≡ b
a_exact x0 (A y0) e = ap A ((bytes_eq-Decides x0 y0).0 e)
a_exact x0 _ e = absurd (false≢true e)

aaaa_exact : (x0 : List ℕ) (b : Data) → data_eq (Aaaa x0) b ≡ true → Aaaa x0 ≡ b
aaaa_exact x0 (Aaaa y0) e = ap Aaaa ((bytes_eq-Decides x0 y0).0 e)
aaaa_exact x0 _ e = absurd (false≢true e)

one_exact : (x0 : Labels) (b : Data) → data_eq (One x0) b ≡ true → One x0 ≡ b
one_exact x0 (One y0) e = ap One (name_eq_exact x0 y0 e)
one_exact x0 _ e = absurd (false≢true e)

mx_exact : (x0 : ℕ) (x1 : Labels) (b : Data) → data_eq (Mx x0 x1) b ≡ true → Mx x0 x1 ≡ b
mx_exact x0 x1 (Mx y0 y1) e =
    let p0 = and_parts _ _ e in
    let e0 : x0 ≡ y0 = eqb-true x0 y0 p0.0 in
    let e1 : x1 ≡ y1 = name_eq_exact x1 y1 p0.1 in
    λ i. Mx (e0 i) (e1 i)
mx_exact x0 x1 _ e = absurd (false≢true e)

soa_exact : (x0 : Labels) (x1 : Labels) (x2 : ℕ) (x3 : ℕ) (x4 : ℕ) (x5 : ℕ) (x6 : ℕ) (b : Data) → data_eq (Soa x0 x1 x2 x3 x4 x5 x6) b ≡ true → Soa x0 x1 x2 x3 x4 x5 x6 ≡ b
soa_exact x0 x1 x2 x3 x4 x5 x6 (Soa y0 y1 y2 y3 y4 y5 y6) e =
    let p0 = and_parts _ _ e in
    let e0 : x0 ≡ y0 = name_eq_exact x0 y0 p0.0 in
    let p1 = and_parts _ _ p0.1 in
    let e1 : x1 ≡ y1 = name_eq_exact x1 y1 p1.0 in
    let p2 = and_parts _ _ p1.1 in
    let e2 : x2 ≡ y2 = eqb-true x2 y2 p2.0 in
    let p3 = and_parts _ _ p2.1 in
    let e3 : x3 ≡ y3 = eqb-true x3 y3 p3.0 in
    let p4 = and_parts _ _ p3.1 in
    let e4 : x4 ≡ y4 = eqb-true x4 y4 p4.0 in
    let p5 = and_parts _ _ p4.1 in
    let e5 : x5 ≡ y5 = eqb-true x5 y5 p5.0 in
    let e6 : x6 ≡ y6 = eqb-true x6 y6 p5.1 in
    λ i. Soa (e0 i) (e1 i) (e2 i) (e3 i) (e4 i) (e5 i) (e6 i)
soa_exact x0 x1 x2 x3 x4 x5 x6 _ e = absurd (false≢true e)

txt_exact : (x0 : List (List ℕ)) (b : Data) → data_eq (Txt x0) b ≡ true → Txt x0 ≡ b
txt_exact x0 (Txt y0) e = ap Txt ((slice_eq-Decides bytes_eq-Decides x0 y0 _ refl).0 e)
txt_exact x0 _ e = absurd (false≢true e)

srv_exact : (x0 : ℕ) (x1 : ℕ) (x2 : ℕ) (x3 : Labels) (b : Data) → data_eq (Srv x0 x1 x2 x3) b ≡ true → Srv x0 x1 x2 x3 ≡ b
srv_exact x0 x1 x2 x3 (Srv y0 y1 y2 y3) e =
    let p0 = and_parts _ _ e in
    let e0 : x0 ≡ y0 = eqb-true x0 y0 p0.0 in
    let p1 = and_parts _ _ p0.1 in
    let e1 : x1 ≡ y1 = eqb-true x1 y1 p1.0 in
    let p2 = and_parts _ _ p1.1 in
    let e2 : x2 ≡ y2 = eqb-true x2 y2 p2.0 in
    let e3 : x3 ≡ y3 = name_eq_exact x3 y3 p2.1 in
    λ i. Srv (e0 i) (e1 i) (e2 i) (e3 i)
srv_exact x0 x1 x2 x3 _ e = absurd (false≢true e)

opaque_exact : (x0 : List ℕ) (b : Data) → data_eq (Opaque x0) b ≡ true → Opaque x0 ≡ b
opaque_exact x0 (Opaque y0) e = ap Opaque ((bytes_eq-Decides x0 y0).0 e)
opaque_exact x0 _ e = absurd (false≢true e)

-- data that `==` calls equal is the same
pub data_eq_exact : (a b : Data) → data_eq a b ≡ true → a ≡ b
data_eq_exact (A x0) b e = a_exact x0 b e
data_eq_exact (Aaaa x0) b e = aaaa_exact x0 b e
data_eq_exact (One x0) b e = one_exact x0 b e
data_eq_exact (Mx x0 x1) b e = mx_exact x0 x1 b e
data_eq_exact (Soa x0 x1 x2 x3 x4 x5 x6) b e = soa_exact x0 x1 x2 x3 x4 x5 x6 b e
data_eq_exact (Txt x0) b e = txt_exact x0 b e
data_eq_exact (Srv x0 x1 x2 x3) b e = srv_exact x0 x1 x2 x3 b e
data_eq_exact (Opaque x0) b e = opaque_exact x0 b e

-- questions that `==` calls equal are the same
pub question_eq_exact : (a b : Question) → question_eq a b ≡ true → a ≡ b
question_eq_exact a b e =
    let parts = and_parts _ _ e in
    let with_owner : Labels → Question = λ owner. record a { owner = owner } in
    let with_kind : ℕ → Question = λ kind. record b { kind = kind } in
    ap with_owner (name_eq_exact a.owner b.owner parts.0) ∙ ap with_kind (eqb-true a.kind b.kind parts.1)

-- records that `==` calls equal are the same
pub record_eq_exact : (a b : Record) → record_eq a b ≡ true → a ≡ b
record_eq_exact a b e =
    let p0 = and_parts _ _ e in
    let p1 = and_parts _ _ p0.1 in
    let p2 = and_parts _ _ p1.1 in
    let e0 : a.owner ≡ b.owner = name_eq_exact a.owner b.owner p0.0 in
    let e1 : a.kind ≡ b.kind = eqb-true a.kind b.kind p1.0 in
    let e2 : a.ttl ≡ b.ttl = eqb-true a.ttl b.ttl p2.0 in
    let e3 : a.body ≡ b.body = data_eq_exact a.body b.body p2.1 in
    λ i. record { owner = e0 i; kind = e1 i; ttl = e2 i; body = e3 i }

-- IP addresses that `==` calls equal are the same
pub ip_eq_exact : (a b : Ip) → ip_eq a b ≡ true → a ≡ b
ip_eq_exact (V4 xs) (V4 ys) e = ap V4 ((bytes_eq-Decides xs ys).0 e)
ip_eq_exact (V6 xs) (V6 ys) e = ap V6 ((bytes_eq-Decides xs ys).0 e)
ip_eq_exact _ _ e = absurd (false≢true e)

-- addresses of servers that `==` calls equal are the same
pub addr_eq_exact : (a b : Addr) → addr_eq a b ≡ true → a ≡ b
addr_eq_exact a b e =
    let parts = and_parts _ _ e in
    let same_ip : a.ip ≡ b.ip = ip_eq_exact a.ip b.ip parts.0 in
    let same_port : a.port ≡ b.port = eqb-true a.port b.port parts.1 in
    λ i. record { ip = same_ip i; port = same_port i }

-- ---- each value is equal to itself

same : (n : ℕ) → eqb n n ≡ true
same n = eq-eqb n n refl

-- data is equal to itself
pub data_eq_itself : (a : Data) → data_eq a a ≡ true
data_eq_itself (A octets) = (bytes_eq-Decides octets octets).1 refl
data_eq_itself (Aaaa octets) = (bytes_eq-Decides octets octets).1 refl
data_eq_itself (One name) = name_eq_itself name
data_eq_itself (Mx preference exchange) = both_true (same preference) (name_eq_itself exchange)
data_eq_itself (Soa primary mailbox serial refresh retry expire minimum) =
    both_true (name_eq_itself primary) (both_true (name_eq_itself mailbox) (both_true (same serial) (both_true (same refresh) (both_true (same retry) (both_true (same expire) (same minimum))))))
data_eq_itself (Txt strings) = (slice_eq-Decides bytes_eq-Decides strings strings _ refl).1 refl
data_eq_itself (Srv priority weight port target) = both_true (same priority) (both_true (same weight) (both_true (same port) (name_eq_itself target)))
data_eq_itself (Opaque octets) = (bytes_eq-Decides octets octets).1 refl

-- a question is equal to itself
pub question_eq_itself : (a : Question) → question_eq a a ≡ true
question_eq_itself a = both_true (name_eq_itself a.owner) (same a.kind)

-- a record is equal to itself
pub record_eq_itself : (a : Record) → record_eq a a ≡ true
record_eq_itself a = both_true (name_eq_itself a.owner) (both_true (same a.kind) (both_true (same a.ttl) (data_eq_itself a.body)))

-- an IP address is equal to itself
pub ip_eq_itself : (a : Ip) → ip_eq a a ≡ true
ip_eq_itself (V4 octets) = (bytes_eq-Decides octets octets).1 refl
ip_eq_itself (V6 octets) = (bytes_eq-Decides octets octets).1 refl

-- an address of a server is equal to itself
pub addr_eq_itself : (a : Addr) → addr_eq a a ≡ true
addr_eq_itself a = both_true (ip_eq_itself a.ip) (same a.port)
