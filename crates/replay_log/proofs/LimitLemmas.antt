-- The ranges of lines, from what they say.
use Rattle.std.proofs.Common.{ℕ, ◌≡◌, ◌+◌, ◌-◌, ◌^◌, ◌<◌, ◌≤◌, Bool, true, false, cond, ltb, List, [], ◌∷◌, length, map, Option, Some, None, Result, Ok, Err, IfOk, arith, ap, sym, subst, refl}
use Rattle.std.specs.List.{All, position}
use Rattle.std.proofs.lemmas.Bool.{ltb-false}
use Rattle.std.proofs.lemmas.List.Elements.{All-nil, All-cons}
use Rattle.std.proofs.lemmas.List.Quantifiers.{position-Some}
use Rattle.std.specs.declared.vec.Vec.{Vec}
use Rattle.std.specs.declared.alloc.Global.{Global}
use Rattle.zone_outside.specs.Coded.{decoded}
use Rattle.zone_outside.specs.Numbers.{is_empty, number_of}
use Rattle.zone_key.specs.Expr.{is_same}
use Rattle.zone_config.specs.declared.data.Level.{Level}
use Rattle.replay_log.specs.declared.fault.LogFault.{LogFault}
use Rattle.replay_log.specs.declared.line.Event.{Event}
use Rattle.replay_log.specs.declared.line.Event.TheVariants.{Start, Fail, Done}
use Rattle.replay_log.specs.declared.line.Line.{Line}
use Rattle.replay_log.specs.Lines.{Fault, parts, before_rest, lines_from}
use Rattle.replay_log.specs.Words.{Locations, then_behind, ended, or_kind, location_of, at_location, level_of, four_of, address_kind, octets_of, address_of}
use Rattle.replay_log.specs.Requests.{pairs_of, start_of, at_address, at_level, at_event, with_event, at_conn, at_moment, request_line, locations_in, requests_of}
use Rattle.replay_log.specs.Limits.{IsLevelOf, IsEventOf, IsLineOf}
use Rattle.replay_log.specs.Reading.{GivesLines}
use Rattle.replay_log.proofs.NumberLemmas.{number-le}

-- ---- answers in general

pub same_Ok : {A E : Type 0} (a b : A) → (let r : Result A E = Ok a in r) ≡ Ok b → a ≡ b
same_Ok a b is = cc

-- both parts are Ok
pub then_ok : {A B : Type 0} (r : Result A ℕ) (f : A → Result B ℕ) (b : B) → then_behind r f ≡ Ok b → (a : A) × (r ≡ Ok a) × (f a ≡ Ok b)
then_ok (Ok a) f b is = (a, refl, is)
then_ok (Err kind) f b is = absurd (cc)

pub kind_ok : {A : Type 0} (kind : ℕ) (found : Option A) (a : A) → or_kind kind found ≡ Ok a → Some a ≡ found
kind_ok kind None a is = absurd (cc)
kind_ok kind (Some found) a is = ap Some (sym (same_Ok found a is))

-- ---- words

-- a number of a word is below the bound
pub number_below : (kind bound : ℕ) (word : List ℕ) (n : ℕ) → 0 < bound → or_kind kind (number_of (bound - 1) word) ≡ Ok n → n < bound
number_below kind bound word n some is =
    let within : n ≤ bound - 1 = number-le (bound - 1) word n (kind_ok kind (number_of (bound - 1) word) n is) in
    omega arith

-- locations are numbered below a count
abbrev pub AreBelow : ℕ → Locations → Type 0
AreBelow count locations = (name : List ℕ) (n : ℕ) → locations name ≡ Some n → n < count

pub located : (levels : List Level) → AreBelow (length levels) (locations_in levels)
located levels name n is = (position-Some (λ (level : Level). is_same level.name name) levels n (record { name = []; req = []; conn = []; req_status = 0; conn_status = 0; req_dry = false; conn_dry = false; peers = None }) is).0

at_location_below : (count : ℕ) (found : Option ℕ) (level : Option ℕ) → ((n : ℕ) → found ≡ Some n → n < count) → at_location found ≡ Ok level → IsLevelOf count level
at_location_below count None level below is = absurd (cc)
at_location_below count (Some n) level below is =
    let P : Option ℕ → Type 0 = IsLevelOf count in subst P (same_Ok (Some n) level is) (below n refl)

decoded_below : (count : ℕ) (locations : Locations) (name : Option (List ℕ)) (n : ℕ) → AreBelow count locations → Rattle.std.specs.Option.option_and_then locations name ≡ Some n → n < count
decoded_below count locations None n below is = absurd (cc)
decoded_below count locations (Some name) n below is = below name n is

located_below : (count : ℕ) (locations : Locations) (empty : Bool) (name : Option (List ℕ)) (n : ℕ) → AreBelow count locations → cond empty None (Rattle.std.specs.Option.option_and_then locations name) ≡ Some n → n < count
located_below count locations true name n below is = absurd (cc)
located_below count locations false name n below is = decoded_below count locations name n below is

level_below : (count : ℕ) (locations : Locations) (dash : Bool) (found level : Option ℕ) → ((n : ℕ) → found ≡ Some n → n < count) → cond dash (Ok None) (at_location found) ≡ Ok level → IsLevelOf count level
level_below count locations true found level below is =
    let P : Option ℕ → Type 0 = IsLevelOf count in subst P (same_Ok None level is) tt
level_below count locations false found level below is = at_location_below count found level below is

four_long : (found : List (Option ℕ)) (address : List ℕ) → Some address ≡ four_of found → length address ≡ 4
four_long [] address is = absurd (cc)
four_long (None ∷ rest) address is = absurd (cc)
four_long (Some a ∷ []) address is = absurd (cc)
four_long (Some a ∷ None ∷ rest) address is = absurd (cc)
four_long (Some a ∷ Some b ∷ []) address is = absurd (cc)
four_long (Some a ∷ Some b ∷ None ∷ rest) address is = absurd (cc)
four_long (Some a ∷ Some b ∷ Some c ∷ []) address is = absurd (cc)
four_long (Some a ∷ Some b ∷ Some c ∷ None ∷ rest) address is = absurd (cc)
four_long (Some a ∷ Some b ∷ Some c ∷ Some d ∷ []) address is =
    let same : address ≡ a ∷ b ∷ c ∷ d ∷ [] = cc in ap length same
four_long (Some a ∷ Some b ∷ Some c ∷ Some d ∷ e ∷ rest) address is = absurd (cc)

-- ---- an event

address_event : (count : ℕ) (level : Option ℕ) (words : List (List ℕ)) (event : Event) → IsLevelOf count level → at_address level words ≡ Ok event → IsEventOf count event
address_event count level [] event below is = absurd (cc)
address_event count level (word ∷ words) event below is =
    let at = then_ok (address_of word) _ event is in
    let behind = then_ok (pairs_of [] words) _ event at.2 in
    let long : length at.0 ≡ 4 = four_long (map (number_of 255) (parts 46 word)) at.0 (kind_ok (address_kind word) (octets_of word) at.0 at.1) in
    let P : Event → Type 0 = IsEventOf count in subst P (same_Ok _ event behind.2) (below, long)

level_event : (count : ℕ) (locations : Locations) (words : List (List ℕ)) (event : Event) → AreBelow count locations → at_level locations words ≡ Ok event → IsEventOf count event
level_event count locations [] event below is = absurd (cc)
level_event count locations (word ∷ words) event below is =
    let at = then_ok (level_of locations word) _ event is in
    address_event count at.0 words event
    (level_below count locations _ (location_of locations word) at.0 (λ n found. located_below count locations (is_empty word) (decoded word) n below found) at.1)
    at.2

ended_event : (count : ℕ) (last : Event) (words : List (List ℕ)) (event : Event) → IsEventOf count last → ended last words ≡ Ok event → IsEventOf count event
ended_event count last [] event in_limits is = let P : Event → Type 0 = IsEventOf count in subst P (same_Ok last event is) in_limits
ended_event count last (word ∷ words) event in_limits is = absurd (cc)

pick : (P : Event → Type 0) (opens fails ends : Bool) (o f d : Result Event ℕ) (event : Event)
    → (o ≡ Ok event → P event) → (f ≡ Ok event → P event) → (d ≡ Ok event → P event)
    → cond opens o (cond fails f (cond ends d (Err 4))) ≡ Ok event → P event
pick P true fails ends o f d event at_o at_f at_d is = at_o is
pick P false true ends o f d event at_o at_f at_d is = at_f is
pick P false false true o f d event at_o at_f at_d is = at_d is
pick P false false false o f d event at_o at_f at_d is = absurd (cc)

event_in : (count : ℕ) (locations : Locations) (words : List (List ℕ)) (event : Event) → AreBelow count locations → at_event locations words ≡ Ok event → IsEventOf count event
event_in count locations [] event below is = absurd (cc)
event_in count locations (word ∷ words) event below is =
    pick (IsEventOf count) _ _ _ (at_level locations words) (ended Fail words) (ended Done words) event
    (λ o. level_event count locations words event below o)
    (λ f. ended_event count Fail words event tt f)
    (λ d. ended_event count Done words event tt d)
    is

-- ---- a line

-- what a line's words say of its ranges
pub record IsSaid (count n : ℕ) (line : Line) : Type 0 where
  pub number : line.number ≡ n
  pub moment : line.moment < 2 ^ 42
  pub conn : line.conn < 2 ^ 32
  pub event : IsEventOf count line.event

conn_line : (count : ℕ) (locations : Locations) (number moment : ℕ) (words : List (List ℕ)) (line : Line) → AreBelow count locations → moment < 2 ^ 42 → at_conn locations number moment words ≡ Ok line → IsSaid count number line
conn_line count locations number moment [] line below early is = absurd (cc)
conn_line count locations number moment (word ∷ words) line below early is =
    let at = then_ok (or_kind 3 (number_of (2 ^ 32 - 1) word)) _ line is in
    let behind = then_ok (at_event locations words) _ line at.2 in
    let P : Line → Type 0 = IsSaid count number in
    subst P (same_Ok _ line behind.2) (record {
      number = refl;
      moment = early;
      conn = number_below 3 (2 ^ 32) word at.0 (omega arith) at.1;
      event = event_in count locations words behind.0 below behind.1;
    })

moment_line : (count : ℕ) (locations : Locations) (number : ℕ) (words : List (List ℕ)) (line : Line) → AreBelow count locations → at_moment locations number words ≡ Ok line → IsSaid count number line
moment_line count locations number [] line below is = absurd (cc)
moment_line count locations number (word ∷ words) line below is =
    let at = then_ok (or_kind 2 (number_of (2 ^ 42 - 1) word)) _ line is in
    conn_line count locations number at.0 words line below (number_below 2 (2 ^ 42) word at.0 (omega arith) at.1) at.2

-- ---- a log

module _ {L : Type 0} (says : ℕ → List ℕ → Result L ℕ) (P : L → Type 0) (each : (n : ℕ) (text : List ℕ) (line : L) → 1 ≤ n → n ≤ 131072 → says n text ≡ Ok line → P line) where
  last_all : (empty : Bool) (fault : Fault) (lines : List L) → cond empty (Ok []) (Err fault) ≡ Ok lines → All P lines
  last_all true fault lines is = let Q : List L → Type 0 = All P in subst Q (same_Ok [] lines is) (All-nil P)
  last_all false fault lines is = absurd (cc)

  before_all : (n : ℕ) (first : Result L ℕ) (rest : Result (List L) Fault) (lines : List L) → ((line : L) → first ≡ Ok line → P line) → ((others : List L) → rest ≡ Ok others → All P others)
      → before_rest n first rest ≡ Ok lines → All P lines
  before_all n (Err kind) rest lines at_first at_rest is = absurd (cc)
  before_all n (Ok line) (Err fault) lines at_first at_rest is = absurd (cc)
  before_all n (Ok line) (Ok others) lines at_first at_rest is =
      let Q : List L → Type 0 = All P in subst Q (same_Ok (line ∷ others) lines is) (All-cons P line others (at_first line refl) (at_rest others refl))

  counted_all : (past : Bool) (fault : Fault) (rest : Result (List L) Fault) (lines : List L) → (past ≡ false → rest ≡ Ok lines → All P lines) → cond past (Err fault) rest ≡ Ok lines → All P lines
  counted_all true fault rest lines at is = absurd (cc)
  counted_all false fault rest lines at is = at refl is

  pub lines_all : (n : ℕ) (texts : List (List ℕ)) (lines : List L) → 1 ≤ n → lines_from says n texts ≡ Ok lines → All P lines
  lines_all n [] lines some is = let Q : List L → Type 0 = All P in subst Q (same_Ok [] lines is) (All-nil P)
  lines_all n (last ∷ []) lines some is = last_all (is_empty last) _ lines is
  lines_all n (text ∷ next ∷ rest) lines some is =
      counted_all (ltb 131072 n) _ (before_rest n (says n text) (lines_from says (n + 1) (next ∷ rest))) lines
      (λ within read. before_all n (says n text) (lines_from says (n + 1) (next ∷ rest)) lines
      (λ line said. each n text line some (ltb-false 131072 n within) said)
      (λ others said. lines_all (n + 1) (next ∷ rest) others (omega arith) said)
      read)
      is

-- the lines of a log are in their ranges
pub requests_limits : (levels : List Level) (text : List ℕ) (lines : List Line) → requests_of levels text ≡ Ok lines → All (IsLineOf (length levels)) lines
requests_limits levels text lines is =
    lines_all (request_line (locations_in levels)) (IsLineOf (length levels))
    (λ n line found some last said.
    let h = moment_line (length levels) (locations_in levels) n (parts 32 line) found (located levels) said in
    record {
      first = rw h.number some;
      last = rw h.number last;
      moment = h.moment;
      conn = h.conn;
      event = h.event;
    })
    1 (parts 10 text) lines (omega arith) is

pub limits_of : (levels : List Level) (text : List ℕ) (result : Result (Vec Line Global) LogFault) → GivesLines (requests_of levels text) result → IfOk result (λ lines. All (IsLineOf (length levels)) lines.items)
limits_of levels text (Ok lines) said = requests_limits levels text lines.items said
limits_of levels text (Err fault) said = tt
