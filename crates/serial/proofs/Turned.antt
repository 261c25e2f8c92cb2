-- Calls answered in turn, put together.
use Rattle.std.proofs.Common.{◌≡◌, ℕ, true, ◌+◌, ◌-◌, ◌<◌, map, take, drop, replicate, get_or, arith, List, [], ◌∷◌, ◌++◌, length, Ok, Err, Result, sym, ap, ◌∙◌, refl, subst, append_assoc, append-nil}
use Rattle.std.specs.Result.{IfErr, IsErrAnd}
use Rattle.std.specs.declared.io.Error.{Error}
use Rattle.std.proofs.lemmas.List.{take_more, take-append-drop, map-append, replicate-append-replicate}
use Rattle.end.specs.declared.call.Call.{Call}
use Rattle.end.specs.declared.call.Call.TheVariants.{Byte, Tick}
use Rattle.end.specs.declared.end.End.{End}
use Rattle.end.specs.Ends.{CallsOn}
use Rattle.end.specs.Ends as ends
use Rattle.end.specs.Records.{Record, calls_of, sent_by, room_for, record_of}
use Rattle.end.proofs.Runs.{behind_on, calls_on_then}
use Rattle.head.specs.declared.setting.Setting.{Setting}
use Rattle.head.specs.Settings.{in_range}
use Rattle.head.specs.declared.traits.Head.{Ghosts as HeadGhosts}
use Rattle.head.specs.declared.traits.Look.{Ghosts as LookGhosts}
use Rattle.serial.specs.Outside.{Operation, Operating, Operated, none, then, writes}
use Rattle.serial.specs.Turns.{HadRoom, reply, replies, Answered, CallReplied, Failed, Wrote}
use Rattle.serial.specs.Turns as turns

-- Operations.

pub operated_both : {O : Type 0} {op : Operating O} {os ps : List Operation} {x y z : O} → Operated op x os y → Operated op y ps z → Operated op x (os ++ ps) z
operated_both none q = q
operated_both (then o p ps) q = then o p (operated_both ps q)

pub operated_as : {O : Type 0} {op : Operating O} {os ps : List Operation} {x y : O} → os ≡ ps → Operated op x os y → Operated op x ps y
operated_as {op = op} {x = x} {y = y} e p = subst (λ (l : List Operation). Operated op x l y) e p

-- a call that sent something, or nothing
pub wrote : {O : Type 0} {op : Operating O} {sent : List ℕ} {x y : O} {w : Result (Unit {0}) Error} → 0 < length sent → op x (writes sent w) y → Wrote op sent x w y
wrote {sent = []} some p = absurd (omega (arith, some))
wrote {sent = b ∷ bs} {w = Ok u} some p = turns.Wrote.all (then (writes (b ∷ bs) (Ok tt)) p none)
wrote {sent = b ∷ bs} {w = Err e} some p = turns.Wrote.lost some (then (writes (b ∷ bs) (Err e)) p none)

pub unwritten : {O : Type 0} {op : Operating O} {sent : List ℕ} {x : O} → length sent ≡ 0 → Wrote op sent x (Ok tt) x
unwritten {sent = []} e = turns.Wrote.all none
unwritten {sent = b ∷ bs} e = absurd (omega (arith, e))

all_written : {O : Type 0} {op : Operating O} {sent : List ℕ} {x y : O} → Wrote op sent x (Ok tt) y → Operated op x (reply sent (Ok tt)) y
all_written (turns.Wrote.all p) = p

some_lost : {O : Type 0} {op : Operating O} {sent : List ℕ} {x y : O} {e : Error} → Wrote op sent x (Err e) y →
    (0 < length sent) × Operated op x (writes sent (Err e) ∷ []) y
some_lost (turns.Wrote.lost some p) = (some, p)

-- One call. The law of a head keeps its settings in range.

module _ {O : Type 0} {op : Operating O} {H : Type 0} {h : HeadGhosts H} {l : LookGhosts H} (ranged : (a : H) (s : Setting) → in_range s (l.setting a s) ≡ true)
    {c : Call} {end end' : End H h l} {x y : O} where
  pub call_answered : CallReplied op c end x (Ok tt) end' y → Answered op (c ∷ []) end x end' y
  call_answered p =
      let r = record_of c (room_for c 16) p.answer p.sent p.endings in
      let made = ends.CallsOn.then r ends.CallsOn.none p.step (record { each = ranged end'.head }) p.head in
      record { records = r ∷ []; asked = refl; made = made; room = (refl, tt); law = behind_on made; written = all_written p.wrote }

  pub call_failed : {e : Error} → CallReplied op c end x (Err e) end' y → Failed op (c ∷ []) e end x end' y
  call_failed p =
      let r = record_of c (room_for c 16) p.answer p.sent p.endings in
      let made = ends.CallsOn.then r ends.CallsOn.none p.step (record { each = ranged end'.head }) p.head in
      let lost = some_lost p.wrote in
      record { last = r; before = []; left = []; asked = refl; made = made; room = (refl, tt); law = behind_on made; lost = lost.0; written = lost.1 }

-- One after the other.

pub calls_of_both : (h h' : List Record) → calls_of h ++ calls_of h' ≡ calls_of (h' ++ h)
calls_of_both h [] = append-nil _
calls_of_both h (r ∷ h') = sym (append_assoc (calls_of h) (calls_of h') (r.fed.call ∷ [])) ∙ ap (λ (cs : List Call). cs ++ r.fed.call ∷ []) (calls_of_both h h')

pub sent_by_both : (h h' : List Record) → sent_by h ++ sent_by h' ≡ sent_by (h' ++ h)
sent_by_both h [] = append-nil _
sent_by_both h (r ∷ h') = sym (append_assoc (sent_by h) (sent_by h') r.fed.sent) ∙ ap (λ (bs : List ℕ). bs ++ r.fed.sent) (sent_by_both h h')

replies_both : (h h' : List Record) → replies h ++ replies h' ≡ replies (h' ++ h)
replies_both h [] = append-nil _
replies_both h (r ∷ h') =
    sym (append_assoc (replies h) (replies h') (reply r.fed.sent (Ok tt))) ∙ ap (λ (os : List Operation). os ++ reply r.fed.sent (Ok tt)) (replies_both h h')

pub room_both : (h h' : List Record) → HadRoom h → HadRoom h' → HadRoom (h' ++ h)
room_both h [] p q = p
room_both h (r ∷ h') p q = (q.0, room_both h h' p q.1)

module _ {O : Type 0} {op : Operating O} {H : Type 0} {h : HeadGhosts H} {l : LookGhosts H} where
  pub none_answered : {end : End H h l} {x : O} → Answered op [] end x end x
  none_answered {end = end} =
      record { records = []; asked = refl; made = ends.CallsOn.none; room = tt; law = behind_on {x = end} ends.CallsOn.none; written = none }

  pub answered_both : {cs ds : List Call} {end end' end'' : End H h l} {x y z : O} →
      Answered op cs end x end' y → Answered op ds end' y end'' z → Answered op (cs ++ ds) end x end'' z
  answered_both {cs = cs} p q =
      let made = calls_on_then p.made q.made in
      record {
        records = q.records ++ p.records;
        asked = sym (calls_of_both p.records q.records) ∙ ap (λ (l : List Call). l ++ calls_of q.records) p.asked ∙ ap (λ (l : List Call). cs ++ l) q.asked;
        made = made;
        room = room_both p.records q.records p.room q.room;
        law = behind_on made;
        written = operated_as (replies_both p.records q.records) (operated_both p.written q.written);
      }

  pub failed_behind : {cs ds : List Call} {e : Error} {end end' end'' : End H h l} {x y z : O} →
      Answered op cs end x end' y → Failed op ds e end' y end'' z → Failed op (cs ++ ds) e end x end'' z
  failed_behind {cs = cs} {e = e} p q =
      let rs = q.last ∷ q.before in
      let made = calls_on_then p.made q.made in
      record {
        last = q.last;
        before = q.before ++ p.records;
        left = q.left;
        asked =
            ap (λ (l : List Call). l ++ q.left) (sym (calls_of_both p.records rs))
            ∙ append_assoc (calls_of p.records) (calls_of rs) q.left
            ∙ ap (λ (l : List Call). l ++ (calls_of rs ++ q.left)) p.asked
            ∙ ap (λ (l : List Call). cs ++ l) q.asked;
        made = made;
        room = room_both p.records rs p.room q.room;
        law = behind_on made;
        lost = q.lost;
        written = operated_as
            (sym (append_assoc (replies p.records) (replies q.before) (writes q.last.fed.sent (Err e) ∷ []))
            ∙ ap (λ (l : List Operation). l ++ writes q.last.fed.sent (Err e) ∷ []) (replies_both p.records q.before))
            (operated_both p.written q.written);
      }

  -- calls that were still to be made
  pub failed_before : {cs : List Call} (ds : List Call) {e : Error} {end end' : End H h l} {x y : O} →
      Failed op cs e end x end' y → Failed op (cs ++ ds) e end x end' y
  failed_before ds q = record {
    last = q.last;
    before = q.before;
    left = q.left ++ ds;
    asked = sym (append_assoc (calls_of (q.last ∷ q.before)) q.left ds) ∙ ap (λ (l : List Call). l ++ ds) q.asked;
    made = q.made;
    room = q.room;
    law = q.law;
    lost = q.lost;
    written = q.written;
  }

  pub answered_as : {cs ds : List Call} {end end' : End H h l} {x y : O} → cs ≡ ds → Answered op cs end x end' y → Answered op ds end x end' y
  answered_as {end = end} {end' = end'} {x = x} {y = y} e p = subst (λ (l : List Call). Answered op l end x end' y) e p

  pub failed_as : {cs ds : List Call} {e : Error} {end end' : End H h l} {x y : O} → cs ≡ ds → Failed op cs e end x end' y → Failed op ds e end x end' y
  failed_as {e = e} {end = end} {end' = end'} {x = x} {y = y} c p = subst (λ (l : List Call). Failed op l e end x end' y) c p

-- In a loop, and where it fails.

pub more_bytes : (bs : List ℕ) (i : ℕ) → i < length bs → map Byte (take (i + 1) bs) ≡ map Byte (take i bs) ++ Byte (get_or bs i 0) ∷ []
more_bytes bs i lt = ap (λ (l : List ℕ). map Byte l) (take_more bs i 0 lt) ∙ map-append Byte (take i bs) (get_or bs i 0 ∷ [])

pub bytes_parted : (bs : List ℕ) (i : ℕ) → i < length bs →
    (map Byte (take i bs) ++ Byte (get_or bs i 0) ∷ []) ++ map Byte (drop (i + 1) bs) ≡ map Byte bs
bytes_parted bs i lt =
    ap (λ (l : List Call). l ++ map Byte (drop (i + 1) bs)) (sym (more_bytes bs i lt))
    ∙ sym (map-append Byte (take (i + 1) bs) (drop (i + 1) bs))
    ∙ ap (λ (l : List ℕ). map Byte l) (take-append-drop (i + 1) bs)

pub more_ticks : (k : ℕ) → replicate k Tick ++ Tick ∷ [] ≡ replicate (k + 1) Tick
more_ticks k = replicate-append-replicate k 1 Tick

pub ticks_parted : (k n : ℕ) → k < n → (replicate k Tick ++ Tick ∷ []) ++ replicate (n - (k + 1)) Tick ≡ replicate n Tick
ticks_parted k n lt =
    let all : (k + 1) + (n - (k + 1)) ≡ n = omega arith in
    ap (λ (l : List Call). l ++ replicate (n - (k + 1)) Tick) (more_ticks k)
    ∙ replicate-append-replicate (k + 1) (n - (k + 1)) Tick
    ∙ ap (λ (m : ℕ). replicate m Tick) all

-- By cases of a result.

-- an error that is handed on
pub handed_on : {T E : Type 0} (r : Result T E) {e : E} (P : E → Type 0) → IsErrAnd r (λ y. y ≡ e) → P e → IfErr r P
handed_on (Ok x) P is p = tt
handed_on (Err y) P is p = subst P (sym is) p
