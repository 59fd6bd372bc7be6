-- The size of a reply, and the octets of one that is cut.
use Rattle.std.proofs.Common.{◌≡◌, ℕ, ◌+◌, ◌-◌, ◌<◌, ◌≤◌, List, [], ◌∷◌, ◌++◌, length, take, Option, Some, None, true, false, map, refl, sym, ap, ◌∙◌, inl, inr, arith, length-append}
use Rattle.std.specs.List.{flat_map, sum_by}
use Rattle.std.specs.Option.{is_some}
use Rattle.std.specs.Char.{to_ascii_lowercase}
use Rattle.std.proofs.lemmas.List.{append-nil, length-map, length-take, length-drop}
use Rattle.std.proofs.lemmas.Grind.{flat_map-append}
use Rattle.std.proofs.lemmas.List.Recursion.{is_sum_by}
use Rattle.std.proofs.lemmas.List.Sums.{sum_by_push}
use Rattle.dns_name.specs.Labels.{Labels, IsName, spelled}
use Rattle.dns_text.specs.declared.record.Data.{Data}
use Rattle.dns_text.specs.declared.record.Record.{Record}
use Rattle.dns_wire.specs.declared.message.Classed.{Classed}
use Rattle.dns_wire.specs.declared.message.Head.{Head}
use Rattle.dns_wire.specs.declared.server.query.Query.{Query}
use Rattle.dns_wire.specs.Lent.{Parts, in_order, lent_reply, set_records}
use Rattle.dns_wire.specs.Read.Header.{head_in}
use Rattle.dns_wire.specs.Read.Number.{u16_at}
use Rattle.dns_wire.specs.WellFormed.{IsHead, IsQuestion, IsWellFormed}
use Rattle.dns_wire.specs.Write.Encoding.{RepliesAreRead}
use Rattle.dns_wire.specs.Write.Header.{header_octets}
use Rattle.dns_wire.specs.Write.Message.{octets_with, IsTooLong}
use Rattle.dns_wire.specs.Write.Name.{owner_octets}
use Rattle.dns_wire.specs.Write.Number.{u16_octets, u32_octets}
use Rattle.dns_wire.specs.Write.Question.{in_class_in, question_octets, IsQuestionOctets}
use Rattle.dns_wire.specs.Write.Rdata.{data_octets}
use Rattle.dns_wire.specs.Write.Record.{behind_owner_octets, record_octets, records_octets}
use Rattle.dns_wire.specs.Write.SizeLaws.{length-octets_with}
use Rattle.dns_query.specs.declared.over.Over.TheVariants.{Udp}
use Rattle.iterate.specs.declared.answer.AnswerSet.{AnswerSet}
use Rattle.iterate.specs.Told.{kinds_of}
use Rattle.ranked.specs.Body.{data_of}
use Rattle.ranked.specs.declared.find.Body.{Body}
use Rattle.ranked.specs.declared.find.Body.TheVariants.{Set}
use Rattle.ranked.specs.declared.find.Find.{Find}
use Rattle.ranked.specs.declared.find.Scope.{Scope}
use Rattle.ranked.specs.declared.find.Scope.TheVariants.{One}
use Rattle.replies.specs.Lending.{answer_parts, authority_parts, records_found, records_written, seconds_written}
use Rattle.replies.specs.Reply.{Written, whole}
use Rattle.replies.specs.Sizing.{bodies_size, capped, records_size, MustBeCut}

-- ---- records

-- Type and class take two octets each, the TTL four, and the length of the data two.
length-record : (first : Labels) (r : Classed Record) → length (record_octets (Some first) r) ≡ length (owner_octets (Some first) r.item.owner) + 10 + length (data_octets r.item.body)
length-record first r =
    let body = data_octets r.item.body in
    omega (arith, length-append (owner_octets (Some first) r.item.owner) (behind_owner_octets r), length-append (u16_octets r.item.kind ++ u16_octets r.class ++ u32_octets r.item.ttl ++ u16_octets (length body)) body)

-- a record of a set
abbrev record_with : Labels → ℕ → ℕ → Data → Classed Record
record_with owner kind ttl body = in_class_in {A = Record} (record { owner = owner; kind = kind; ttl = ttl; body = body })

-- The records of a set take as many octets as are counted.
pub set_counted : (first owner : Labels) (kind ttl : ℕ) (bodies : List Data) → records_size first (set_records owner kind ttl bodies) ≡ bodies_size (length (owner_octets (Some first) owner)) bodies
set_counted first owner kind ttl bodies =
    is_sum_by {X = Data} (λ some. records_size first (set_records owner kind ttl some)) (λ body. length (owner_octets (Some first) owner) + 10 + length (data_octets body)) refl
    (λ body some. length-append (record_octets (Some first) (record_with owner kind ttl body)) (records_octets (Some first) (set_records owner kind ttl some)) ∙ ap (λ (n : ℕ). n + records_size first (set_records owner kind ttl some)) (length-record first (record_with owner kind ttl body))) bodies

-- Records one after another take the sum of their octets.
pub records_size-append : (first : Labels) (xs ys : List (Classed Record)) → records_size first (xs ++ ys) ≡ records_size first xs + records_size first ys
records_size-append first xs ys =
    ap length (flat_map-append (λ r. record_octets (Some first) r) xs ys) ∙ length-append (records_octets (Some first) xs) (records_octets (Some first) ys)

-- The records of sets take the sum of what each takes.
pub sets_counted : (first : Labels) (sets : List AnswerSet) → records_size first (in_order (map records_written sets)) ≡ sum_by (λ set. records_size first (records_written set)) sets
sets_counted first sets =
    is_sum_by {X = AnswerSet} (λ some. records_size first (in_order (map records_written some))) (λ set. records_size first (records_written set)) refl
    (λ set some. records_size-append first (records_written set) (in_order (map records_written some))) sets

-- The last set comes after the others.
last_counted : (first : Labels) (sets : List AnswerSet) (last : AnswerSet) → records_size first (in_order (map records_written (sets ++ last ∷ []))) ≡ records_size first (in_order (map records_written sets)) + records_size first (records_written last)
last_counted first sets last =
    sets_counted first (sets ++ last ∷ []) ∙ (sum_by_push {X = AnswerSet} (λ set. records_size first (records_written set)) sets last ∙ ap (λ (n : ℕ). n + records_size first (records_written last)) (sym (sets_counted first sets)))

-- The same of a count that stays at its last value, from what is known of each part of it.
pub counted_as : (first owner : Labels) (own size n : ℕ) (bodies body : List Data) → size ≡ capped (bodies_size own bodies) → own ≡ length (owner_octets (Some first) owner) → bodies ≡ body
    → n ≡ bodies_size (length (owner_octets (Some first) owner)) body → size ≡ capped n
counted_as first owner own size n bodies body size_is own_is bodies_is n_is =
    let of_own : capped (bodies_size own bodies) ≡ capped (bodies_size (length (owner_octets (Some first) owner)) bodies) = ap (λ (o : ℕ). capped (bodies_size o bodies)) own_is in
    let of_bodies : capped (bodies_size (length (owner_octets (Some first) owner)) bodies) ≡ capped (bodies_size (length (owner_octets (Some first) owner)) body) = ap (λ (some : List Data). capped (bodies_size (length (owner_octets (Some first) owner)) some)) bodies_is in
    size_is ∙ (of_own ∙ (of_bodies ∙ ap (λ (some : ℕ). capped some) (sym n_is)))

-- The records of a find are those of its set.
pub found_counted : (first : Labels) (find : Find) (kind ttl : ℕ) (bodies : List Data) → find.scope ≡ One kind → find.body ≡ Set bodies → records_size first (records_found ttl find) ≡ bodies_size (length (owner_octets (Some first) find.owner)) bodies
found_counted first find kind ttl bodies scope body =
    let records = λ (s : Scope) (b : Body). flat_map (λ k. set_records find.owner k (seconds_written ttl) (data_of b)) (kinds_of s) in
    let of_scope : records find.scope find.body ≡ records (One kind) find.body = ap (λ (s : Scope). records s find.body) scope in
    let of_body : records (One kind) find.body ≡ records (One kind) (Set bodies) = ap (λ (b : Body). records (One kind) b) body in
    let alone : records (One kind) (Set bodies) ≡ set_records find.owner kind (seconds_written ttl) bodies = append-nil (set_records find.owner kind (seconds_written ttl) bodies) in
    ap (λ (some : List (Classed Record)). records_size first some) (of_scope ∙ (of_body ∙ alone)) ∙ set_counted first find.owner kind (seconds_written ttl) bodies

-- ---- messages

-- A record takes an octet at least.
many_records : (first : Labels) (records : List (Classed Record)) → length records ≤ records_size first records
many_records first [] = omega arith
many_records first (r ∷ records) =
    omega (arith, many_records first records, length-append (record_octets (Some first) r) (records_octets (Some first) records), length-record first r)

length-question : (query : Query) → length query.octets ≡ length (spelled query.question.owner) + 5
length-question query =
    let octets = query.octets in
    let is : IsQuestionOctets octets query.question = query.spelled in
    omega (arith, ap length is.owner, ap length is.fixed, length-map (take (length octets - 4) octets) to_ascii_lowercase, length-take (length octets - 4) octets, length-drop (length octets - 4) octets, length-append (spelled query.question.owner) (0 ∷ []))

-- how many octets a reply takes
abbrev reply_size : Query → Parts → Parts → ℕ
reply_size query answer authority = 12 + length query.octets + (records_size query.question.owner (in_order answer) + records_size query.question.owner (in_order authority))

pub reply_counted : (query : Query) (head : Head) (answer authority : Parts) → length (octets_with query.octets (lent_reply head query.question answer authority)) ≡ reply_size query answer authority
reply_counted query head answer authority = omega (arith, length-octets_with query.octets (lent_reply head query.question answer authority))

-- A reply that is no longer than a message may be is not too long.
pub reply_fits : (query : Query) (head : Head) (answer authority : Parts) → reply_size query answer authority ≤ 65535 → ¬ (IsTooLong (lent_reply head query.question answer authority))
reply_fits query head answer authority short long =
    let v = lent_reply head query.question answer authority in
    let q = in_class_in query.question in
    let all = length-octets_with (flat_map question_octets v.questions) v in
    let size = length-question query in
    let one : length (flat_map question_octets v.questions) ≡ length (spelled query.question.owner) + 5 = simp length-append (omega arith) in
    let answers = many_records query.question.owner (in_order answer) in
    let authorities = many_records query.question.owner (in_order authority) in
    elim long [
      | inl over ↦ omega arith
      | inr (inl over) ↦ omega arith
      | inr (inr (inl over)) ↦ omega arith
      | inr (inr (inr (inl over))) ↦ omega arith
      | inr (inr (inr (inr over))) ↦ omega arith
    ]

-- A reply without records is short.
pub alone_short : (query : Query) (head : Head) → IsName query.question.owner → length (octets_with query.octets (lent_reply head query.question [] [])) ≤ 512
alone_short query head name =
    let none : records_size query.question.owner (in_order []) ≡ 0 = refl in
    omega (arith, reply_counted query head [] [], length-question query, name.short)

-- An option that is not some value is none.
pub none_if_not_some : {X : Type 0} (o : Option X) → is_some o ≡ false → o ≡ None
none_if_not_some None not = refl
none_if_not_some (Some x) not = cc

-- Counts that stay at their last value say whether a reply must be cut.
pub counted_out : (query : Query) (aliases : List AnswerSet) (set : AnswerSet) (before here size : ℕ)
    → before ≡ capped (records_size query.question.owner (in_order (map records_written aliases))) → here ≡ capped (records_size query.question.owner (records_written set))
    → size ≡ capped (capped (before + here) + (12 + length query.octets)) → 512 < size → size ≤ 65535
    → MustBeCut query (answer_parts aliases (Some set)) (authority_parts None)
counted_out query aliases set before here size before_is here_is size_is more few head =
    let owner = query.question.owner in
    let answer = answer_parts aliases (Some set) in
    let none : records_size owner (in_order []) ≡ 0 = refl in
    let last : records_size owner (in_order answer) ≡ records_size owner (in_order (map records_written aliases)) + records_size owner (records_written set) = last_counted owner aliases set in
    let all : length (octets_with query.octets (lent_reply head query.question answer [])) ≡ 12 + length query.octets + records_size owner (in_order answer) = omega (arith, reply_counted query head answer []) in
    let exact : size ≡ 12 + length query.octets + (records_size owner (in_order (map records_written aliases)) + records_size owner (records_written set)) = omega (arith, before_is, here_is, size_is, few) in
    let short : reply_size query answer [] ≤ 65535 = omega (arith, exact, last, few) in
    (omega (arith, all, exact, last, more), reply_fits query head answer [] short)

-- ---- a reply that is cut

-- The header of a reply is the same with other records.
same_head : (octets : List ℕ) (query : Query) (head : Head) (a b c d : Parts) → head_in (octets_with octets (lent_reply head query.question a b)) ≡ head_in (octets_with octets (lent_reply head query.question c d))
unfolding octets_with header_octets u16_at
same_head octets query head a b c d = refl

-- A header with TC and the question are what goes out for a reply that must be cut.
pub cut_written : RepliesAreRead → (query : Query) (head : Head) (m out : List ℕ) (answer authority : Parts) → IsHead head → IsName query.question.owner → MustBeCut query answer authority
    → out ≡ octets_with query.octets (lent_reply (record head { tc = true }) query.question [] [])
    → Written Udp m query (lent_reply head query.question answer authority) out
cut_written law query head m out answer authority fits name must is =
    let octets = query.octets in
    let alone = lent_reply head query.question [] [] in
    let few = reply_fits query head [] [] (omega (arith, length-question query, name.short)) in
    let asked : IsQuestion (in_class_in query.question) = record { owner = name; kind = query.spelled.kind; class = omega arith } in
    let well : IsWellFormed alone = record { head = fits; questions = (asked, tt); answer = tt; authority = tt; additional = tt } in
    let spells = law query.question octets alone query.spelled well refl few in
    let read : head_in (octets_with octets (lent_reply head query.question answer authority)) ≡ head = same_head octets query head answer authority [] [] ∙ sym spells.stands.head in
    let cut = ap (λ (h : Head). octets_with octets (lent_reply (record h { tc = true }) query.question [] [])) (sym read) in
    let long = must head in
    whole long.1 (λ short. absurd (omega (arith, long.0)), λ more. is ∙ cut)
