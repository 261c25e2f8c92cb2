-- What an end does by its own values, as its state: by what a head's calls mean.
use Rattle.std.proofs.Common.{◌≡◌, ℕ, ◌≤◌, Bool, true, false, cond, not, List, length, take, drop, Some, None, Option, Ok, Err, Result, sym, ap, ◌∙◌, refl, length-append, arith}
use Rattle.std.proofs.lemmas.List.{take_at, drop_at}
use Rattle.end.specs.declared.call.Call.{Call}
use Rattle.end.specs.declared.call.Call.TheVariants.{Byte, Tick}
use Rattle.end.specs.declared.end.End.{End}
use Rattle.end.specs.declared.faults.Cause.{Cause}
use Rattle.end.specs.declared.faults.Fault.{Fault}
use Rattle.end.specs.declared.socket.Sockets.{Sockets}
use Rattle.end.specs.Deeds.{Deed, nothing, clears, cancels, starts, displaces, ticks, DropsBoth, Starts, HeadCalls, DidHead, Unchanged, MadeIdle, Given, endings_in, none_ended, other_socket}
use Rattle.end.specs.Ends.{CameWith, CameOf}
use Rattle.end.specs.Faults.{answered, count_told}
use Rattle.end.specs.Outcomes.{Outcome, framed, met, requested, commanded, taken, ticked, answer_with}
use Rattle.end.specs.Records.{call_record}
use Rattle.end.specs.Sockets.{is_open, socket_at, finds_room, free, powering_in}
use Rattle.end.specs.States.{meaning, state}
use Rattle.end.specs.Steps.{Came, Step, heard_in}
use Rattle.head.specs.declared.order.Order.{Order}
use Rattle.head.specs.declared.outcome.Endings.{Endings}
use Rattle.head.specs.declared.outcome.Refusal.{Refusal}
use Rattle.head.specs.declared.setting.Setting.{Setting}
use Rattle.head.specs.declared.traits.Head.{Ghosts as HeadGhosts}
use Rattle.head.specs.declared.traits.Look.{Ghosts as LookGhosts}
use Rattle.rows.specs.declared.faults.PacketFault.{PacketFault}
use Rattle.rows.specs.declared.request.Request.{Request}
use Rattle.rows.specs.declared.request.Request.TheVariants.{Command, Ask}
use Rattle.rows.specs.declared.command.Command as says
use Rattle.rows.specs.Orders.{order_of, subject}
use Rattle.rows.specs.Requests.{read_body}
use Rattle.rules.specs.declared.ring.Rule.{Rule}
use Rattle.rules.specs.declared.ring.Rule.TheVariants.{TakenOff, AddressSet, ClearedForAll, SentOn, Cleared, Cancelled, Requested}
use Rattle.rules.specs.Modes.{forbidden_by}
use Rattle.rules.specs.Ring.{rule_of}
use Rattle.wire.specs.Framing.{Held, Event, held_after, event}
use Rattle.wire.specs.Packets.{body_of}
use Rattle.head.specs.Meaning.{Meaning, Slots, in_use, reason_given, Started, Ticked, Dropped, put as with_slot, idle}

module _ {H : Type 0} (h : HeadGhosts H) (l : LookGhosts H) where
  abbrev means : H → Meaning
  means x = meaning l h.slots x

  -- what the laws of a head say
  pub record Means : Type 0 where
    pub start : (x : H) (y : ℕ) (o : Order) (r : Result (Unit {0}) Refusal) (x' : H) → h.started x y o r x' → Started (means x) y o (reason_given r) (means x')
    pub tick : (x : H) (e : Endings) (x' : H) → h.ticked x e x' → Ticked (means x) e (means x')
    pub drop : (x : H) (y : ℕ) (x' : H) → h.dropped x y x' → Dropped (means x) y (means x')

  same : (x x' : H) → x' ≡ x → Unchanged (means x) (means x')
  same x x' e = record {
    kept = record { setting = λ (s : Setting). ap (λ (z : H). l.setting z s) e; pantilt = ap (λ (z : H). l.pantilt z) e };
    slots = ap (λ (z : H). h.slots z) e;
  }

  module _ (law : Means) where
    pub cleared : (x x' : H) → DropsBoth h.dropped x x' → MadeIdle (means x) (means x')
    cleared x x' d =
        let one = law.drop x 1 d.between d.one in
        let two = law.drop d.between 2 x' d.two in
        record {
          kept = record { setting = λ (s : Setting). two.kept.setting s ∙ one.kept.setting s; pantilt = two.kept.pantilt ∙ one.kept.pantilt };
          slots = two.now_idle ∙ ap (λ (s : Slots). with_slot s 2 idle) one.now_idle;
        }

    given : (x : H) (y : ℕ) (o : Order) (x' : H) → Starts h.started x y o x' → Given (means x) y o (means x')
    given x y o x' s = record { answer = reason_given s.answer; started = law.start x y o s.answer x' s.started }

    pub did : (d : Deed) (x x' : H) → HeadCalls h d x x' → DidHead d (means x) (means x')
    did nothing x x' c = same x x' c
    did clears x x' c = cleared x x' c
    did (cancels y) x x' c = law.drop x y x' c
    did (starts y o) x x' c = given x y o x' c
    did (displaces y o) x x' c = record { between = means c.between; dropped = law.drop x _ c.between c.dropped; given = given c.between y o x' c.starts }
    did (ticks e) x x' c = law.tick x e x' c

-- The head tells no ending over a byte.

pub record Untold (o : Outcome) : Type 0 where
  pub endings : endings_in o.deed ≡ none_ended

abbrev silent : {o : Outcome} → endings_in o.deed ≡ none_ended → Untold o
silent e = record { endings = e }

untold_either : (b : Bool) (o o' : Outcome) → Untold o → Untold o' → Untold (cond b o o')
untold_either true o o' e e' = e
untold_either false o o' e e' = e'

untold_taken : (a : ℕ) (k : Sockets) (y : ℕ) (o : Order) → Untold (taken a k y o)
untold_taken a k y o = untold_either (in_use (socket_at k (other_socket y)) o) _ _ (silent refl) (silent refl)

untold_command : (a : ℕ) (m : Meaning) (k : Sockets) (c : says.Command) → Untold (commanded a m k c)
untold_command a m k c =
    untold_either (not (finds_room k)) _ _ (silent refl)
    (untold_either (forbidden_by m.setting m.pantilt (powering_in k) (subject c) (order_of c)) _ _ (silent refl) (untold_taken a k (free k) (order_of c)))

untold_request : (a : ℕ) (m : Meaning) (k : Sockets) (r : Result Request PacketFault) → Untold (requested a m k r)
untold_request a m k (Ok (Command place c)) = untold_command a m k c
untold_request a m k (Ok (Ask q)) = silent refl
untold_request a m k (Err f) = silent refl

untold_met : (a : ℕ) (m : Meaning) (k : Sockets) (p : List ℕ) (r : Rule) → Untold (met a m k p r)
untold_met a m k p TakenOff = silent refl
untold_met a m k p (AddressSet w) = silent refl
untold_met a m k p ClearedForAll = silent refl
untold_met a m k p SentOn = silent refl
untold_met a m k p Cleared = silent refl
untold_met a m k p (Cancelled y) = untold_either (is_open (socket_at k y)) _ _ (silent refl) (silent refl)
untold_met a m k p Requested = untold_request a m k (read_body (body_of p))

pub untold : (a : ℕ) (m : Meaning) (k : Sockets) (e : Event) → Untold (framed a m k e)
untold a m k (Ok None) = silent refl
untold a m k (Ok (Some p)) = untold_met a m k p (rule_of a p)
untold a m k (Err f) = silent refl

-- The count that is answered is that of the bytes in front.

counted : (r : Result ℕ Fault) (bytes : List ℕ) (f : Option Cause) → answered r ≡ answer_with bytes f → count_told r ≡ length bytes
counted (Ok n) bytes None e = cc
counted (Ok n) bytes (Some f) e = cc
counted (Err g) bytes None e = cc
counted (Err g) bytes (Some f) e = cc

module _ {H : Type 0} {h : HeadGhosts H} {l : LookGhosts H} (x : End H h l) (f : Held) (o : Outcome) (r : Result ℕ Fault) (old new : List ℕ) (x' : End H h l)
    (c : CameWith x f o (answered r) old new x') where
  count : length o.sent ≡ count_told r
  count = sym (counted r o.sent o.fault c.answer)

  pub in_front : take (count_told r) new ≡ o.sent
  in_front = rw c.sent (take_at o.sent _ (count_told r) count)

  pub untouched : drop (count_told r) new ≡ drop (count_told r) old
  untouched = rw c.sent (drop_at o.sent _ (count_told r) count ∙ ap (λ (n : ℕ). drop n old) count)

  pub within : count_told r ≤ length new
  within = let n = count in let e = ap length c.sent in omega (arith, length-append {A = ℕ}, e)

  pub came : Means h l → (call : Call) (e : Endings) → e ≡ endings_in o.deed → Came (state x) f o (call_record call old r new e) (state x')
  came law call e says = record {
    answer = c.answer;
    packets = in_front;
    endings = says;
    head = did h l law o.deed x.head x'.head c.head;
    sockets = c.sockets;
    address = c.address;
    held = c.held;
  }

module _ {H : Type 0} {h : HeadGhosts H} {l : LookGhosts H} (law : Means h l) (x : End H h l) (r : Result ℕ Fault) (old new : List ℕ) (x' : End H h l)
    (room : 16 ≤ length old) where
  pub byte_step : (b : ℕ) → CameWith x (held_after x.framer b) (heard_in (state x) b) (answered r) old new x' →
      Step (state x) (call_record (Byte b) old r new none_ended) (state x')
  byte_step b c =
      let e = untold x.address (state x).head x.sockets (event x.framer b) in
      record { short = λ less. absurd (omega arith); enough = λ n. came x _ _ r old new x' c law (Byte b) none_ended (sym e.endings) }

  pub tick_step : (e : Endings) → CameOf x (ticked x.address e) (answered r) old new x' → Step (state x) (call_record Tick old r new e) (state x')
  tick_step e c = record { short = λ less. absurd (omega arith); enough = λ n. came x _ _ r old new x' c law Tick e refl }
