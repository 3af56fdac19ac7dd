-- The summary of every account whose events name clients of the configuration alone adds up.
use Rattle.std.proofs.Common.{◌≡◌, ℕ, zero, suc, ◌+◌, List, [], ◌∷◌, refl, sym, ap, ◌∙◌, subst, Some, None, Option, Bool, true, false, cond, arith, map, length}
use Rattle.std.specs.Prelude.{count_by, sum_by, filter, filter_map, flat_map, option_map, ◌&&◌, ◌||◌, ◌==◌}
use Rattle.std.specs.List.{AllByRecursion as Each, cons_option, list_any}
use Rattle.std.proofs.lemmas.List.Sums.{sum_by-cons, sum_by-append}
use Rattle.cl_types.specs.declared.call.Call.{Call}
use Rattle.cl_types.specs.declared.config.Config.{Config}
use Rattle.cl_types.specs.declared.line.Did.{Did}
use Rattle.cl_types.specs.declared.line.Did.TheVariants as did
use Rattle.cl_types.specs.declared.line.EndedCall.{EndedCall}
use Rattle.cl_types.specs.declared.line.Entry.{Entry}
use Rattle.cl_types.specs.declared.numbers.CallNo.{CallNo}
use Rattle.cl_types.specs.declared.numbers.ClientNo.{ClientNo}
use Rattle.cl_types.specs.declared.reply.Answer.{Answer}
use Rattle.cl_types.specs.declared.reply.Answer.TheVariants as answer
use Rattle.cl_types.specs.declared.schedule.CallText.{CallText}
use Rattle.cl_types.specs.declared.schedule.Event.{Event}
use Rattle.cl_types.specs.declared.schedule.Event.TheVariants as event
use Rattle.trace.specs.Account.{Account, Line, Effect, now, next_frame_number, memory_at, nothing_yet}
use Rattle.client_model.specs.Client.{Finished, Sending, Outgoing, GivesUp, EndsFence, after_poll, after_reply, end_told, again, anew, next_id}
use Rattle.cl_types.specs.Parts.{same_client}
use Rattle.cl_types.specs.Written.{call_of}
use Rattle.trace.specs.Clients.{says_issued, issued, issued_on, call_at, part_request, client_at}
use Rattle.trace.specs.Events.{sent_text, effect, next_account, account_from}
use Rattle.trace.specs.Summaries.{is_done, is_refused, is_timed_out, issued_count, answers}
use Rattle.client_model.specs.Apart.{AreApart}
use Rattle.history_laws.specs.Ends.{ends_of, unended_calls, SummariesAddUp}
use Rattle.client_laws.specs.Flights.{FlightOf}
use Rattle.trace.specs.Schedules.{has_client, is_of_clients, AreOfClients}
use Rattle.lemmas.proofs.Lists.{each_append, each_filter_map_from, each_slice_get, and_then_some, none_some}
use Rattle.lemmas.proofs.SameParts.{eqb_is, same_clients}
use Rattle.client_laws.proofs.Items.{items_texts}
use Rattle.client_laws.proofs.Premises.{none_any}
use Rattle.client_laws.proofs.Cases.{IsQuiet, Cases, peek_is_quiet, effect_by}
use Rattle.client_laws.proofs.Following.{none_count}
use Rattle.history_laws.proofs.AnswersKept.{no_end}
use Rattle.history_laws.proofs.Ends.{calls_add_up}

-- ---- sums
sum_by-same : {X : Type 0} (f g : X → ℕ) (xs : List X) → ((x : X) → f x ≡ g x) → sum_by f xs ≡ sum_by g xs
sum_by-same f g xs h = λ i. sum_by (λ x. h x i) xs

sum_by-none : {X : Type 0} (xs : List X) → sum_by (λ x. 0) xs ≡ 0
sum_by-none [] = refl
sum_by-none {X} (x ∷ xs) =
    let more : sum_by {X = X} (λ y. 0) (x ∷ xs) ≡ 0 + sum_by {X = X} (λ y. 0) xs = sum_by-cons (λ y. 0) x xs in
    let rest : sum_by {X = X} (λ y. 0) xs ≡ 0 = sum_by-none xs in
    omega arith

sum_by-plus : {X : Type 0} (f g : X → ℕ) (xs : List X) → sum_by (λ x. f x + g x) xs ≡ sum_by f xs + sum_by g xs
sum_by-plus f g [] = refl
sum_by-plus f g (x ∷ xs) =
    let both : sum_by (λ x. f x + g x) (x ∷ xs) ≡ f x + g x + sum_by (λ x. f x + g x) xs = sum_by-cons (λ x. f x + g x) x xs in
    let rest : sum_by (λ x. f x + g x) xs ≡ sum_by f xs + sum_by g xs = sum_by-plus f g xs in
    let left : sum_by f (x ∷ xs) ≡ f x + sum_by f xs = sum_by-cons f x xs in
    let right : sum_by g (x ∷ xs) ≡ g x + sum_by g xs = sum_by-cons g x xs in
    omega arith

length-cons_option : {X : Type 0} (o : Option X) (xs : List X) → length (cons_option o xs) ≡ length (cons_option o []) + length xs
length-cons_option None xs = omega arith
length-cons_option (Some x) xs = omega arith

-- ---- a sum over clients
abbrev over : List (ClientNo × ℕ) → (ClientNo → ℕ) → ℕ
over clients f = sum_by (λ given. f given.0) clients

over_plus : (clients : List (ClientNo × ℕ)) (f g h : ClientNo → ℕ) → ((c : ClientNo) → f c ≡ g c + h c)
    → over clients f ≡ over clients g + over clients h
over_plus clients f g h is =
    sum_by-same (λ given. f given.0) (λ given. g given.0 + h given.0) clients (λ given. is given.0)
    ∙ sum_by-plus (λ given. g given.0) (λ given. h given.0) clients

abbrev numbers : List (ClientNo × ℕ) → List ℕ
numbers clients = map (λ given. given.0.0) clients

-- how many times d is the client c
abbrev is_one : ClientNo → ClientNo → ℕ
is_one d c = cond (same_client c d) 1 0

no_client : (clients : List (ClientNo × ℕ)) (d : ClientNo) → list_any (λ m. m == d.0) (numbers clients) ≡ false
    → over clients (is_one d) ≡ 0
no_client [] d none = refl
no_client (given ∷ clients) d none =
    sum_by-cons (λ (given : ClientNo × ℕ). is_one d given.0) given clients
    ∙ go (given.0.0 == d.0) (list_any (λ m. m == d.0) (numbers clients)) none (no_client clients d)
  where
    go : (b any : Bool) → (b || any) ≡ false → (any ≡ false → over clients (is_one d) ≡ 0)
        → cond b 1 0 + over clients (is_one d) ≡ 0
    go true any none rest = grind arith
    go false any none rest = let k : over clients (is_one d) ≡ 0 = rest none in omega arith

-- where no two have one number, a client is one of them once
one_client : (clients : List (ClientNo × ℕ)) (d : ClientNo) → AreApart (numbers clients) → has_client clients d ≡ true
    → over clients (is_one d) ≡ 1
one_client [] d apart has = grind arith
one_client (given ∷ clients) d apart has =
    sum_by-cons (λ (given : ClientNo × ℕ). is_one d given.0) given clients
    ∙ go (given.0.0 == d.0) refl has (one_client clients d apart.1)
  where
    go : (b : Bool) → (given.0.0 == d.0) ≡ b → (b || has_client clients d) ≡ true
        → (has_client clients d ≡ true → over clients (is_one d) ≡ 1) → cond b 1 0 + over clients (is_one d) ≡ 1
    go true same has rest =
        let others : list_any (λ m. m == d.0) (numbers clients) ≡ false =
        subst (λ n. list_any (λ m. m == n) (numbers clients) ≡ false) (eqb_is given.0.0 d.0 same) apart.0 in
        let none : over clients (is_one d) ≡ 0 = no_client clients d others in
        omega arith
    go false same has rest = let k : over clients (is_one d) ≡ 1 = rest has in omega arith

-- ---- what lines tell
abbrev texts_in : List Line → List Did
texts_in lines = flat_map (λ line. line.texts) lines

abbrev ended_in : List Line → List EndedCall
ended_in lines = filter_map (λ line. line.ended) lines

abbrev answers_in : List Line → List Answer
answers_in lines = filter_map (λ line. option_map (λ x. x.answer) line.ended) lines

-- how many calls a client issued
abbrev issues : List Line → ClientNo → ℕ
issues lines c = length (filter_map (λ line. issued_on c line.event line.texts) lines)

abbrev issues_on : Event → List Did → ClientNo → ℕ
issues_on event texts c = length (cons_option (issued_on c event texts) [])

-- how many of these are of a client
abbrev own : List EndedCall → ClientNo → ℕ
own xs c = length (filter (λ x. same_client c x.client) xs)

own_more : (x : EndedCall) (xs : List EndedCall) (c : ClientNo) → own (x ∷ xs) c ≡ is_one x.client c + own xs c
own_more x xs c = by (same_client c x.client) (filter (λ x. same_client c x.client) xs) where
  by : (b : Bool) (ys : List EndedCall) → length (cond b (x ∷ ys) ys) ≡ cond b 1 0 + length ys
  by true ys = omega arith
  by false ys = omega arith

module _ (clients : List (ClientNo × ℕ)) where
  -- the call that ended is of one of the clients
  abbrev EndIsKnown : Option EndedCall → Type 0
  EndIsKnown None = Unit {0}
  EndIsKnown (Some x) = has_client clients x.client ≡ true

  -- as many calls as an event's texts tell as issued the clients issue by it, and the one that ends is of one of them
  record Fits (event : Event) (texts : List Did) (ended : Option EndedCall) : Type 0 where
    told : over clients (issues_on event texts) ≡ count_by says_issued texts
    ends : EndIsKnown ended

  record LineFits (line : Line) : Type 0 where
    known : is_of_clients clients line.event ≡ true
    fits : Fits line.event line.texts line.ended

  issues_add_up : (lines : List Line) → Each LineFits lines → over clients (issues lines) ≡ count_by says_issued (texts_in lines)
  issues_add_up [] fit = sum_by-none clients
  issues_add_up (line ∷ lines) fit =
      over_plus clients (issues (line ∷ lines)) (issues_on line.event line.texts) (issues lines)
      (λ c. length-cons_option (issued_on c line.event line.texts) _)
      ∙ (λ i. fit.0.fits.told i + issues_add_up lines fit.1 i)
      ∙ sym (sum_by-append (λ d. cond (says_issued d) 1 0) line.texts (texts_in lines))

  ends_add_up : AreApart (numbers clients) → (lines : List Line) → Each LineFits lines
      → over clients (own (ended_in lines)) ≡ length (answers_in lines)
  ends_add_up apart [] fit = sum_by-none clients
  ends_add_up apart (line ∷ lines) fit =
      go line.ended fit.0.fits.ends (ended_in lines) (answers_in lines) (ends_add_up apart lines fit.1)
    where
      go : (o : Option EndedCall) → EndIsKnown o → (xs : List EndedCall) (ys : List Answer) → over clients (own xs) ≡ length ys
          → over clients (own (cons_option o xs)) ≡ length (cons_option (option_map (λ x. x.answer) o) ys)
      go None known xs ys rest = rest
      go (Some x) known xs ys rest =
          let one : over clients (is_one x.client) ≡ 1 = one_client clients x.client apart known in
          let both : over clients (own (x ∷ xs)) ≡ over clients (is_one x.client) + over clients (own xs) =
          over_plus clients (own (x ∷ xs)) (is_one x.client) (own xs) (own_more x xs) in
          omega arith

  -- ---- what an event brings
  none_issued : (c : ClientNo) (event : Event) (texts : List Did) → Each (λ d. says_issued d ≡ false) texts
      → issued_on c event texts ≡ None
  none_issued c (event.Call client text) texts none =
      go (same_client c client) (list_any says_issued texts) (none_any says_issued texts none)
    where
      go : (b any : Bool) → any ≡ false → cond (b && any) (Some (call_of text)) None ≡ None
      go true any h = ap (λ z. cond z (Some (call_of text)) None) h
      go false any h = refl
  none_issued c other texts none = refl

  -- where no text tells that a call was issued
  calm : (event : Event) (texts : List Did) (ended : Option EndedCall) → Each (λ d. says_issued d ≡ false) texts → EndIsKnown ended
      → Fits event texts ended
  calm event texts ended none known = record {
    told = sum_by-same _ (λ given. 0) clients (λ given. ap (λ o. length (cons_option o [])) (none_issued given.0 event texts none))
        ∙ sum_by-none clients ∙ sym (none_count says_issued texts none);
    ends = known;
  }

  -- a call of one of the clients is issued
  issue_fits : AreApart (numbers clients) → (c : ClientNo) (number : CallNo) (text : CallText) → has_client clients c ≡ true
      → Fits (event.Call c text) (did.Issued c number ∷ []) None
  issue_fits apart c number text has = record {
    told = sum_by-same _ (λ given. is_one c given.0) clients (λ given. go (same_client given.0 c))
        ∙ one_client clients c apart has;
    ends = tt;
  }
    where
      go : (b : Bool) → length (cons_option (cond (b && true) (Some (call_of text)) None) []) ≡ cond b 1 0
      go true = refl
      go false = refl

  quiet_none : (d : Did) → IsQuiet d → says_issued d ≡ false
  quiet_none (did.Issued client call) quiet = absurd quiet
  quiet_none other quiet = refl

  sent_none : (c : ClientNo) (frame : ℕ) (o : Outgoing) → says_issued (sent_text c frame o) ≡ false
  sent_none c frame o = go o.again where
    go : (b : Bool) → says_issued (cond b (did.Again frame c o.part o.id o.orig) (did.Sent frame c o.part o.id)) ≡ false
    go true = refl
    go false = refl

  end_known : (c : ClientNo) (fs : List Finished) → has_client clients c ≡ true → EndIsKnown (end_told c fs)
  end_known c [] has = tt
  end_known c (f ∷ fs) has = has

  -- a client that issued a call is one of these
  issuer_known : (a : Account) → Each LineFits a.lines → (c : ClientNo) (n : ℕ) (k : Call) → call_at (issued a c) n ≡ Some k
      → has_client clients c ≡ true
  issuer_known a fit c zero k is = absurd (none_some k is)
  issuer_known a fit c (suc n) k is =
      each_slice_get Known (issued a c) n k
      (each_filter_map_from Known LineFits (λ line. issued_on c line.event line.texts)
      (λ line k f is. go line.event line.texts k f.known is) a.lines fit) is
    where
      Known : Call → Type 0
      Known k = has_client clients c ≡ true

      go : (event : Event) (texts : List Did) (k : Call) → is_of_clients clients event ≡ true → issued_on c event texts ≡ Some k
          → has_client clients c ≡ true
      go (event.Call client text) texts k known is = by (same_client c client) refl is where
        by : (b : Bool) → same_client c client ≡ b → cond (b && list_any says_issued texts) (Some (call_of text)) None ≡ Some k
            → has_client clients c ≡ true
        by true same is = subst (λ (x : ClientNo). has_client clients x ≡ true) (sym (same_clients c client same)) known
        by false apart is = absurd (none_some k is)
      go other texts k known is = absurd (none_some k is)

  flight_known : (a : Account) → Each LineFits a.lines → (c : ClientNo) (f : Sending) → FlightOf a c f
      → has_client clients c ≡ true
  flight_known a fit c f of =
      let k = and_then_some (part_request f.part) (call_at (issued a c) f.part.call.0) f.request of.request in
      issuer_known a fit c f.part.call.0 k.0 k.1

  -- where the client that the event names is one of the clients
  abbrev FitsIfKnown : Event → Effect → Type 0
  FitsIfKnown event e = is_of_clients clients event ≡ true → Fits event e.texts e.ended

  fits_cases : AreApart (numbers clients) → (keep : List Entry → List Entry) (config : Config) (a : Account) (l : ℕ)
      → Each LineFits a.lines → Cases keep config a l FitsIfKnown
  fits_cases apart keep config a l fit = record {
    quiet = λ event d no_peek quiet known. calm event (d ∷ []) None (quiet_none d quiet, tt) tt;
    peeks = λ pid addr n. peek_is_quiet (FitsIfKnown (event.Peek pid addr n))
        (λ d quiet known. calm (event.Peek pid addr n) (d ∷ []) None (quiet_none d quiet, tt) tt)
        (memory_at config a.history l 0) pid addr n;
    issues = λ c text none known. issue_fits apart c (record { 0 = (client_at config a c).issued + 1 }) text known;
    gives_up = λ c f of old known.
        calm (event.Poll c) _ _ (refl, tt)
        (end_known c (after_poll (now a l) (GivesUp f) (client_at config a c)).ended known);
    ends_fence = λ c k rest is fence known.
        calm (event.Poll c) _ _ (refl, tt)
        (end_known c (after_poll (now a l) (EndsFence k.number) (client_at config a c)).ended known);
    sends_again = λ c f of due known.
        calm (event.Poll c) _ None (sent_none c (next_frame_number a) (again (next_id (client_at config a c)) f), tt) tt;
    sends = λ c p of known.
        calm (event.Poll c) _ None (sent_none c (next_frame_number a) (anew (next_id (client_at config a c)) p), tt) tt;
    items = λ event k frame items delivers given known.
        calm event _ _
        (items_texts (λ d. says_issued d ≡ false) ((λ f c p how status reply. refl), (λ f c p oldest at. refl))
        keep config l k items a 0)
        (subst EndIsKnown (sym (no_end keep config l k items a 0)) tt);
    takes = λ event k frame head reply if_taken f delivers given of orig known.
        calm event _ _ (refl, tt)
        (end_known head.client (after_reply f.part reply (client_at config a head.client)).ended
        (flight_known a fit head.client f of));
  }

  -- ---- the induction
  lines_fit : AreApart (numbers clients) → (keep : List Entry → List Entry) (config : Config)
      → (events : List (ℕ × Event)) (a : Account) → AreOfClients clients events → Each LineFits a.lines
      → Each LineFits (account_from keep config a events).lines
  lines_fit apart keep config [] a known fit = fit
  lines_fit apart keep config (e ∷ es) a known fit =
      let fits : Fits e.1 (effect keep config a e.0 e.1).texts (effect keep config a e.0 e.1).ended =
      effect_by keep config a e.0 FitsIfKnown (fits_cases apart keep config a e.0 fit) e.1 known.0 in
      lines_fit apart keep config es (next_account keep config a e) known.1
      (each_append LineFits a.lines _ fit (record { known = known.0; fits = fits }, tt))

-- ---- the law
-- an answer is one of three
answers_add_up : (xs : List Answer) → length xs ≡ count_by is_done xs + count_by is_refused xs + count_by is_timed_out xs
answers_add_up [] = refl
answers_add_up (x ∷ xs) =
    let rest : length xs ≡ count_by is_done xs + count_by is_refused xs + count_by is_timed_out xs = answers_add_up xs in
    let done = sum_by-cons (λ y. cond (is_done y) 1 0) x xs in
    let refused = sum_by-cons (λ y. cond (is_refused y) 1 0) x xs in
    let timed_out = sum_by-cons (λ y. cond (is_timed_out y) 1 0) x xs in
    let one : cond (is_done x) 1 0 + cond (is_refused x) 1 0 + cond (is_timed_out x) 1 0 ≡ 1 = one_of x in
    omega arith
  where
    one_of : (x : Answer) → cond (is_done x) 1 0 + cond (is_refused x) 1 0 + cond (is_timed_out x) 1 0 ≡ 1
    one_of (answer.Done value) = refl
    one_of (answer.Refused refusal) = refl
    one_of (answer.TimedOut first_sent now) = refl

pub summaries_add_up : SummariesAddUp
summaries_add_up keep config events known apart =
    let a : Account = account_from keep config nothing_yet events in
    let fit : Each (LineFits config.clients) a.lines = lines_fit config.clients apart keep config events nothing_yet known tt in
    let issued_by : ClientNo → ℕ = λ c. length (issued a c) in
    let ended_by : ClientNo → ℕ = λ c. length (ends_of a c) in
    let issued_so : over config.clients issued_by ≡ issued_count a = issues_add_up config.clients a.lines fit in
    let ended_so : over config.clients ended_by ≡ length (answers a) = ends_add_up config.clients apart a.lines fit in
    let each_so : over config.clients issued_by ≡ over config.clients ended_by + unended_calls config a =
    over_plus config.clients issued_by ended_by (λ c. length (client_at config a c).calls) (calls_add_up keep config events) in
    let answered_so = answers_add_up (answers a) in
    record { issued = omega arith; unended = omega arith; together = omega arith }
