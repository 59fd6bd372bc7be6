-- What was given, from what clap's getters answer.
use Rattle.std.proofs.Common.{◌≡◌, ◌∙◌, ◌<◌, ◌≤◌, ◌^◌, ◌∷◌, ◌++◌, [], ℕ, List, Option, Some, None, Result, Ok, Err, map, option_map, ap, sym, refl, subst, arith, append_assoc, length, inl, inr, ◌⊎◌}
use Rattle.std.specs.Prelude.{Any, MatchResult, zero, suc, slice_index_or, unwrap_or}
use Rattle.std.specs.List.{join_with_byte}
use Rattle.std.specs.Borrow.{Bor}
use Rattle.std.specs.Str.Parse.{ParsesUnsigned, digits_value, without_leading_plus}
use Rattle.clap.specs.Matches.{TriesOne, first_value, found_of, matched_of, one_text, raw_values}
use Rattle.clap.specs.Walk.{Row, Text, all_of, one_of}
use Rattle.clap.proofs.WalkLemmas.{first_value-rows, one_text-rows, raw_values-rows}
use Rattle.clap.specs.declared.parser.matches.ArgMatches.{ArgMatches}
use Rattle.dns_text.specs.declared.addr.Addr.{Addr}
use Rattle.dns_text.specs.Addr.{addr_in}
use Rattle.resolver_args.specs.Given.{AreRead, GivesAddr, GivesAddrs, GivesEach, GivesNumber, GivesText, LacksAddr, LacksEach, LacksNumber, LacksOption, MayGive, WritesNumber, rows_in}
use Rattle.resolver_args.specs.Mode.{HasCounts}
use Rattle.resolver_args.specs.Says.{GivesService, GivesSettings, IsBad, RefusedFor}
use Rattle.resolver_args.specs.Blame.{BlamesRange, BlamesService, BlamesWord}
use Rattle.resolver_args.specs.Ranges.{range_in}
use Rattle.resolver_args.specs.declared.fault.ArgsFault.{ArgsFault}
use Rattle.resolver_args.specs.declared.fault.ArgsFault.TheVariants.{NoMemory, Usage, BadArguments, NotLoopback}
use Rattle.resolver_args.specs.declared.mode.Service.{Service}
use Rattle.history.specs.declared.event.Settings.{Settings}

same_text : (a b : Text) (o : Option Text) → o ≡ Some a → o ≡ Some b → a ≡ b
same_text a b o first second = cc

-- One text writes one number.
pub one_number : (rows : List Row) (name : Text) (m n : ℕ) → GivesNumber rows name m → GivesNumber rows name n → m ≡ n
one_number rows name m n first second =
    sym first.2.1 ∙ (ap (λ (t : Text). digits_value 10 (without_leading_plus t)) (same_text first.0 second.0 _ first.1 second.1) ∙ second.2.1)

pub for_reason : {P Q : Type 0} (fault : ArgsFault) → (P → Q) → RefusedFor P fault → RefusedFor Q fault
for_reason fault leads (inl is) = inl is
for_reason fault leads (inr why) = inr (why.0, leads why.1)

-- An argument that is blamed is bad.
pub blames_word : (name word : Text) (fault : ArgsFault) → BlamesWord name word fault → IsBad fault
blames_word name word NoMemory blamed = absurd blamed
blames_word name word (Usage _) blamed = absurd blamed
blames_word name word (BadArguments _) blamed = tt
blames_word name word NotLoopback blamed = absurd blamed

pub blames_service : (service : Service) (fault : ArgsFault) → BlamesService service fault → IsBad fault
blames_service service NoMemory blamed = absurd blamed
blames_service service (Usage _) blamed = absurd blamed
blames_service service (BadArguments _) blamed = tt
blames_service service NotLoopback blamed = absurd blamed

-- A word that is blamed refuses the arguments, for what its being no address leads to.
pub word_refuses : {Q : Type 0} (name word : Text) (fault : ArgsFault) → (addr_in word ≡ None → Q)
    → (fault ≡ NoMemory) ⊎ ((addr_in word ≡ None) × BlamesWord name word fault) → RefusedFor Q fault
word_refuses name word fault leads (inl is) = inl is
word_refuses name word fault leads (inr why) = inr (blames_word name word fault why.1, leads why.0)

pub blames_range : (name word : Text) (fault : ArgsFault) → BlamesRange name word fault → IsBad fault
blames_range name word NoMemory blamed = absurd blamed
blames_range name word (Usage _) blamed = absurd blamed
blames_range name word (BadArguments _) blamed = tt
blames_range name word NotLoopback blamed = absurd blamed

-- A word that is no range refuses the arguments, for what that leads to.
pub range_refuses : {Q : Type 0} (name word : Text) (fault : ArgsFault) → (range_in word ≡ None → Q)
    → (fault ≡ NoMemory) ⊎ ((range_in word ≡ None) × BlamesRange name word fault) → RefusedFor Q fault
range_refuses name word fault leads (inl is) = inl is
range_refuses name word fault leads (inr why) = inr (blames_range name word fault why.1, leads why.0)

-- What is no number of 32 bits is none of 8, and none of 16.
pub no_8_bits : (rows : List Row) (name : Text) → LacksNumber 32 rows name → LacksNumber 8 rows name
no_8_bits rows name lacks n small given = lacks n (omega arith) given

pub no_16_bits : (rows : List Row) (name : Text) → LacksNumber 32 rows name → LacksNumber 16 rows name
no_16_bits rows name lacks n small given = lacks n (omega arith) given

pub no_number : (rows : List Row) (name : Text) → LacksOption rows name → LacksNumber 32 rows name
no_number rows name lacks n small given = lacks (Some n) (given, small)

pub nothing_given : (rows : List Row) (name : Text) → one_of name rows ≡ None → LacksNumber 32 rows name
nothing_given rows name none n small given = let e : None ≡ Some given.0 = sym none ∙ given.1 in cc

tried_text : (E : Type 0) (G : Text → Result ℕ E → Type 0) (rows : List Row) (name : Text) (text : Option Text) → one_of name rows ≡ text
    → (r : Result (Option ℕ) E) → ((u : Text) (x : Result ℕ E) → G u x → ParsesUnsigned 32 10 u x)
    → (text ≡ None → r ≡ Ok None) → ((t : Text) → text ≡ Some t → TriesOne G t r)
    → MatchResult r (MayGive rows name) (λ _. LacksOption rows name)
tried_text E G rows name None is r only none value =
    subst (λ (q : Result (Option ℕ) E). MatchResult q (MayGive rows name) (λ _. LacksOption rows name)) (sym (none refl)) is
tried_text E G rows name (Some t) is (Ok (Some v)) only none value =
    let parsed = only t (Ok v) (value t refl) in ((t, is, (parsed.0.0, sym parsed.1)), rw parsed.1 parsed.0.1)
tried_text E G rows name (Some t) is (Ok None) only none value = absurd (value t refl)
tried_text E G rows name (Some t) is (Err e) only none value = lacks
  where
    lacks : (n : Option ℕ) → MayGive rows name n → ⊥
    lacks None given = let e : None ≡ Some t = sym given ∙ is in cc
    lacks (Some n) given =
        let same : given.0.0 ≡ t = same_text given.0.0 t _ given.0.1 is in
        let writes : WritesNumber t n = subst (λ (u : Text). WritesNumber u n) same given.0.2 in
        only t (Err e) (value t refl) (writes.0, subst (λ (k : ℕ). k < 2 ^ 32) (sym writes.1) given.1)

-- What `try_get_one` answers.
pub tried : (E : Type 0) (G : Text → Result ℕ E → Type 0) (found : ArgMatches) (name : Text) (r : Result (Option ℕ) E)
    → ((u : Text) (x : Result ℕ E) → G u x → ParsesUnsigned 32 10 u x)
    → (one_text (found_of found) name ≡ None → r ≡ Ok None)
    → ((t : Text) → one_text (found_of found) name ≡ Some t → TriesOne G t r)
    → MatchResult r (MayGive (rows_in found) name) (λ _. LacksOption (rows_in found) name)
tried E G found name r only none value =
    tried_text E G (rows_in found) name (one_text (found_of found) name) (sym (one_text-rows (found_of found) name)) r only none value

-- What `get_str` answers.
pub no_text : (found : ArgMatches) (name : Text) → first_value (found_of found) name ≡ None → LacksAddr (rows_in found) name
no_text found name none addr given =
    let e : None ≡ Some given.0 = sym none ∙ (first_value-rows (found_of found) name ∙ given.1) in cc

pub text_is : (found : ArgMatches) (name : Text) (text : Option Text) → first_value (found_of found) name ≡ text → GivesText (rows_in found) name text
text_is found name text is = sym is ∙ first_value-rows (found_of found) name

pub text_gives : (found : ArgMatches) (name text : Text) (addr : Addr) → first_value (found_of found) name ≡ Some text → addr_in text ≡ Some addr → GivesAddr (rows_in found) name addr
text_gives found name text addr some is = (text, sym (first_value-rows (found_of found) name) ∙ some, is)

pub text_lacks : (found : ArgMatches) (name text : Text) → first_value (found_of found) name ≡ Some text → addr_in text ≡ None → LacksAddr (rows_in found) name
text_lacks found name text some is addr given =
    let same : text ≡ given.0 = same_text text given.0 _ (sym (first_value-rows (found_of found) name) ∙ some) given.1 in
    let e : None ≡ Some addr = sym is ∙ (ap addr_in same ∙ given.2) in cc

none_at : {X : Type 0} (read : Text → Option X) (texts : List (Bor Text)) (values : List X) (k : ℕ) (t : Bor Text)
    → k < length texts → slice_index_or texts k t ≡ t → read t.now ≡ None → AreRead read (map (λ t. t.now) texts) values → ⊥
none_at read [] values k t within at none are = absurd (omega arith)
none_at read (x ∷ xs) [] k t within at none are = cc
none_at {X} read (x ∷ xs) (value ∷ values) zero t within at none are =
    let first : read x.now ≡ Some value = cc in
    let here : read x.now ≡ read t.now = ap (λ (b : Bor Text). read b.now) at in
    let e : None ≡ Some value = sym (here ∙ none) ∙ first in cc
none_at read (x ∷ xs) (value ∷ values) (suc k) t within at none are =
    let rest : AreRead read (map (λ t. t.now) xs) values = cc in none_at read xs values k t (omega arith) at none rest

-- What `get_strs` answers.
pub texts_given : (found : ArgMatches) (name : Text) (texts : Option (List Text)) → texts ≡ option_map raw_values (matched_of (found_of found) name)
    → all_of name (rows_in found) ≡ texts
texts_given found name texts is = sym (is ∙ raw_values-rows (found_of found) name)

pub each_given : {X : Type 0} (read : Text → Option X) (rows : List Row) (name : Text) (texts : List Text) (values : List X)
    → all_of name rows ≡ Some texts → AreRead read texts values → GivesEach read rows name values
each_given read rows name texts values all are = ap (λ (o : Option (List Text)). map read (unwrap_or o [])) all ∙ are

pub none_given : {X : Type 0} (read : Text → Option X) (rows : List Row) (name : Text) → all_of name rows ≡ None → GivesEach read rows name []
none_given read rows name all = ap (λ (o : Option (List Text)). map read (unwrap_or o [])) all

-- Texts of which one writes no value write no values.
pub each_lacks : {X : Type 0} (read : Text → Option X) (rows : List Row) (name : Text) (texts : List (Bor Text)) → all_of name rows ≡ Some (map (λ t. t.now) texts)
    → Any (λ t. read t.now ≡ None) texts → LacksEach read rows name
each_lacks read rows name texts all some values given =
    none_at read texts values some.0 some.1 some.2 some.3 some.4 (sym (ap (λ (o : Option (List Text)). map read (unwrap_or o [])) all) ∙ given)

some_each : (xs ys : List Addr) → map Some xs ≡ map Some ys → xs ≡ ys
some_each [] [] e = refl
some_each [] (y ∷ ys) e = cc
some_each (x ∷ xs) [] e = cc
some_each (x ∷ xs) (y ∷ ys) e =
    let rest : map Some xs ≡ map Some ys = cc in let more = some_each xs ys rest in cc

pub one_addrs : (rows : List Row) (name : Text) (a b : List Addr) → GivesAddrs rows name a → GivesAddrs rows name b → a ≡ b
one_addrs rows name a b first second = some_each a b (sym first ∙ second)

pub same_settings : (a b : Settings) → a.journal ≡ b.journal → a.cells ≡ b.cells → a.hints ≡ b.hints → a.server_port ≡ b.server_port → a ≡ b
same_settings a b journal cells hints port =
    ap (λ (n : ℕ). record a { journal = n }) journal
    ∙ (ap (λ (n : ℕ). record a { journal = b.journal; cells = n }) cells
    ∙ (ap (λ (h : List Addr). record a { journal = b.journal; cells = b.cells; hints = h }) hints
    ∙ ap (λ (n : ℕ). record a { journal = b.journal; cells = b.cells; hints = b.hints; server_port = n }) port))

-- What is given comes to one mode at most.
pub one_settings : (rows : List Row) (a b : Settings) → GivesSettings rows a → GivesSettings rows b → a ≡ b
one_settings rows a b first second = same_settings a b
    (one_number rows _ _ _ first.journal second.journal) (one_number rows _ _ _ first.cells second.cells)
    (one_addrs rows _ _ _ first.hints second.hints) (one_number rows _ _ _ first.server_port second.server_port)

-- Two services that are given are alike but for the text of a file's path, and so are their counts.
pub same_counts : (rows : List Row) (a b : Service) → GivesService rows a → GivesService rows b → HasCounts a → HasCounts b
same_counts rows a b first second has =
    let settings : a.settings ≡ b.settings = one_settings rows _ _ first.settings second.settings in
    let udp : a.udp ≡ b.udp = one_number rows _ _ _ first.udp second.udp in
    let tcp : a.tcp ≡ b.tcp = one_number rows _ _ _ first.tcp second.tcp in
    let backlog : a.backlog ≡ b.backlog = one_number rows _ _ _ first.backlog second.backlog in
    let record_limit : a.record_limit ≡ b.record_limit = one_number rows _ _ _ first.record_limit second.record_limit in
    record {
      some_hints = subst (λ (s : Settings). 1 ≤ length s.hints) settings has.some_hints;
      some_udp = omega arith;
      some_tcp = omega arith;
      few_workers = omega arith;
      some_waiting = omega arith;
      few_waiting = omega arith;
      some_recorded = omega arith;
      few_recorded = omega arith;
    }

-- One more word of a line.
pub one_more_word : (c : ℕ) (word : Text) (words : List Text) (more : Text) → join_with_byte c (word ∷ (words ++ more ∷ [])) ≡ join_with_byte c (word ∷ words) ++ (c ∷ more)
one_more_word c word [] more = refl
one_more_word c word (next ∷ words) more = ap (λ (rest : Text). word ++ (c ∷ rest)) (one_more_word c next words more) ∙ sym (append_assoc word (c ∷ join_with_byte c (next ∷ words)) (c ∷ more))
