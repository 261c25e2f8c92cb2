-- What serving comes to, summed over its turns.
use Rattle.std.proofs.Common.{◌≡◌, ℕ, take, drop, List, [], ◌∷◌, ◌++◌, Option, Some, None, Ok, Err, Result, sym, ap, ◌∙◌, refl, subst, append_assoc, append-nil, arith}
use Rattle.std.proofs.lemmas.List.{take-append-drop, length-drop}
use Rattle.std.specs.Io.KnownBytes.{Consumes}
use Rattle.std.specs.declared.io.Error.{Error}
use Rattle.std.specs.declared.time.Instant.{Instant}
use Rattle.end.specs.declared.call.Call.{Call}
use Rattle.end.specs.Ends as calls
use Rattle.end.specs.Ends.{CallsOn}
use Rattle.end.specs.Records.{Record, calls_of, sent_by}
use Rattle.end.proofs.Runs.{behind_on, calls_on_then}
use Rattle.head.specs.declared.traits.Head.{Ghosts as HeadGhosts}
use Rattle.head.specs.declared.traits.Look.{Ghosts as LookGhosts}
use Rattle.serial.specs.declared.port.Port.{Port}
use Rattle.serial.specs.declared.silence.Finish.{Finish}
use Rattle.serial.specs.declared.ticks.Ticks.{Ticks}
use Rattle.serial.specs.Outside.{Operation, Operating, Operated, none, then, writes, Known, Moved, Means}
use Rattle.serial.specs.Sums.{TurnAt, time_after, ticks_after, calls_over, bytes_over, Rising, Sum, IsWhole, Sums}
use Rattle.serial.specs.Turns.{HadRoom, Moment, Turn, Unbroken, Begun, TurnMade, TurnsMade, ReplyLost, Served, at_start, calls_in, reply, replies, time_then}
use Rattle.serial.specs.Turns as turns
use Rattle.serial.specs.Ticks.{owed, paid_at}
use Rattle.serial.proofs.Moving.{appends_none, appends_both, consumes_none}
use Rattle.serial.proofs.Turned.{calls_of_both, sent_by_both, room_both}

-- Bytes.

consumes_both : (a b c : Option (List ℕ)) (first second : List ℕ) → Consumes a b first → Consumes b c second → Consumes a c (first ++ second)
consumes_both None b c first second p q = tt
consumes_both (Some xs) None c first second p q = absurd p
consumes_both (Some xs) (Some ys) None first second p q = absurd q
consumes_both (Some xs) (Some ys) (Some zs) first second p q = p ∙ ap (λ (l : List ℕ). first ++ l) q ∙ sym (append_assoc first second zs)

unmoved : (k : Known) → Moved [] [] k k
unmoved k = record { consumed = consumes_none k.unread; appended = appends_none k.got; left = omega arith }

moved_both : {a b c d : List ℕ} {k k' k'' : Known} → Moved a b k k' → Moved c d k' k'' → Moved (a ++ c) (b ++ d) k k''
moved_both {k = k} {k' = k'} {k'' = k''} p q = record {
  consumed = consumes_both k.unread k'.unread k''.unread _ _ p.consumed q.consumed;
  appended = appends_both k.got k'.got k''.got _ _ p.appended q.appended;
  left = omega arith;
}

moved_as : {a b c d : List ℕ} {k k' : Known} → a ≡ c → b ≡ d → Moved a b k k' → Moved c d k k'
moved_as {b = b} {c = c} {k = k} {k' = k'} e f p = subst (λ (l : List ℕ). Moved c l k k') f (subst (λ (l : List ℕ). Moved l b k k') e p)

-- An outside whose operations mean what they mean.
module _ {O : Type 0} (op : Operating O) (known : O → Known) (means : (x : O) (o : Operation) (y : O) → op x o y → Means o (known x) (known y)) where
  parted : (os : List Operation) {ps : List Operation} {x z : O} → Operated op x (os ++ ps) z → (y : O) × Operated op x os y × Operated op y ps z
  parted [] p = (_, none, p)
  parted (o ∷ os) (then _ p ps) = let q = parted os ps in (q.0, then o p q.1, q.2)

  read_moved : {x y : O} {bytes : List ℕ} → Unbroken op x (Ok bytes) y → Moved bytes [] (known x) (known y)
  read_moved (turns.read r w o) = (means _ _ _ o).0
  read_moved (turns.again e s o q) = moved_both (means _ _ _ o).0 (read_moved q)

  read_failed : {x y : O} {e : Error} → Unbroken op x (Err e) y → Moved [] [] (known x) (known y)
  read_failed (turns.read r w o) = (means _ _ _ o).0
  read_failed (turns.again e s o q) = moved_both (means _ _ _ o).0 (read_failed q)

  reply_moved : (sent : List ℕ) {x y : O} → Operated op x (reply sent (Ok tt)) y → Moved [] sent (known x) (known y)
  reply_moved [] none = unmoved _
  reply_moved (b ∷ bs) (then o p none) = means _ _ _ p

  replies_moved : (h : List Record) {x y : O} → Operated op x (replies h) y → Moved [] (sent_by h) (known x) (known y)
  replies_moved [] none = unmoved _
  replies_moved (r ∷ h) p = let q = parted (replies h) p in moved_both (replies_moved h q.1) (reply_moved r.fed.sent q.2)

  -- the part of a reply that was written, where that failed
  lost_part : {bytes : List ℕ} {e : Error} {x y : O} → Operated op x (writes bytes (Err e) ∷ []) y → (n : ℕ) × Moved [] (take n bytes) (known x) (known y)
  lost_part (then o p none) = means _ _ _ p

  begun_moved : {x y : O} {t : Turn} → Begun op x t y → Moved t.bytes [] (known x) (known y)
  begun_moved {t = t} p = moved_as (append-nil t.bytes) refl (moved_both (read_moved p.read) (means _ _ _ p.clock))

  abbrev at : Turn → ℕ → TurnAt
  at t now = record { bytes = t.bytes; time = now }

  module _ {H : Type 0} {h : HeadGhosts H} {l : LookGhosts H} where
    -- whole turns, summed
    record Over (b : Port H h l) (k : Known) (ts : List TurnAt) (m : Moment O H h l) : Type 0 where
      pub records : List Record
      pub made : CallsOn b.end records m.port.end
      pub room : HadRoom records
      pub asked : calls_of records ≡ calls_over b.ticks ts
      pub ticks : m.port.ticks ≡ ticks_after b.ticks ts
      pub time : m.time ≡ time_after ts
      pub rising : Rising ts
      pub moved : Moved (bytes_over ts) (sent_by records) k (known m.outside)

    over_none : (b : Port H h l) (x : O) → Over b (known x) [] (at_start b x)
    over_none b x = record {
      records = [];
      made = calls.CallsOn.none;
      room = tt;
      asked = refl;
      ticks = refl;
      time = refl;
      rising = tt;
      moved = unmoved (known x);
    }

    later : (start : Instant) {b : Port H h l} {k : Known} {ts : List TurnAt} {m : Moment O H h l} (t : Turn) (now : ℕ) →
        Over b k ts m → now ≡ time_then start m.time t.told → Rising (at t now ∷ ts)
    later start t now p e = (let before = p.time in omega arith, p.rising)

    over_more : {start : Instant} {b : Port H h l} {k : Known} {ts : List TurnAt} {m m' : Moment O H h l} {t : Turn} {f : Option Finish} →
        Over b k ts m → TurnMade op start m t f m' → Over b k (at t m'.time ∷ ts) m'
    over_more {b = b} {ts = ts} {m = m} {m' = m'} {t = t} p q =
        let a = q.answered in
        record {
          records = a.records ++ p.records;
          made = calls_on_then p.made a.made;
          room = room_both p.records a.records p.room a.room;
          asked =
              sym (calls_of_both p.records a.records)
              ∙ ap (λ (l : List Call). l ++ calls_of a.records) p.asked
              ∙ ap (λ (l : List Call). calls_over b.ticks ts ++ l) a.asked
              ∙ ap (λ (u : Ticks). calls_over b.ticks ts ++ calls_in t.bytes (owed u m'.time)) p.ticks;
          ticks = q.counted.ticks ∙ ap (λ (u : Ticks). paid_at u m'.time) p.ticks;
          time = refl;
          rising = later _ t m'.time p q.time;
          moved = moved_as (ap (λ (l : List ℕ). bytes_over ts ++ l) (append-nil t.bytes)) (sent_by_both p.records a.records)
              (moved_both p.moved (moved_both (begun_moved q.begun) (replies_moved a.records a.written)));
        }

    over : {start : Instant} {b : Port H h l} {x : O} {ts : List Turn} {m : Moment O H h l} →
        TurnsMade op start (at_start b x) ts m → (us : List TurnAt) × Over b (known x) us m
    over {b = b} {x = x} turns.none = ([], over_none b x)
    over (turns.then t p q) = let o = over p in (_, over_more o.1 q)

    nothing_made : {b : Port H h l} {k k' : Known} → Moved [] [] k k' → Sum b b k k'
    nothing_made {b = b} o = record {
      turns = [];
      rising = tt;
      records = [];
      made = calls.CallsOn.none;
      room = tt;
      law = behind_on {x = b.end} calls.CallsOn.none;
      unmade = [];
      asked = refl;
      untold = [];
      got = [];
      lost = [];
      sent = refl;
      rest = omega arith;
      moved = o;
    }

    -- what was read behind the last turn, and the box stayed as it was
    sum_read : {b b' : Port H h l} {k₀ k k' : Known} {bytes : List ℕ} {ts : List TurnAt} {m : Moment O H h l} → Moved [] [] k₀ k → Over b k ts m →
        Moved bytes [] (known m.outside) k' → b' ≡ m.port → Sum b b' k₀ k'
    sum_read {b = b} {k₀ = k₀} {k' = k'} {bytes = bytes} {ts = ts} {m = m} o p q e =
        let s : Sum b m.port k₀ k' = record {
          turns = ts;
          rising = p.rising;
          records = p.records;
          made = p.made;
          room = p.room;
          law = behind_on p.made;
          unmade = [];
          asked = append-nil _ ∙ p.asked;
          untold = bytes;
          got = sent_by p.records;
          lost = [];
          sent = sym (append-nil (sent_by p.records));
          rest = omega arith;
          moved = moved_as refl (append-nil (sent_by p.records)) (moved_both o (moved_both p.moved q));
        } in
        subst (λ (c : Port H h l). Sum b c k₀ k') (sym e) s

    -- whole turns alone, behind the start
    sum_of : {b : Port H h l} {k₀ k : Known} {ts : List TurnAt} {m : Moment O H h l} → Moved [] [] k₀ k → Over b k ts m → Sum b m.port k₀ (known m.outside)
    sum_of {ts = ts} o p = record {
      turns = ts;
      rising = p.rising;
      records = p.records;
      made = p.made;
      room = p.room;
      law = behind_on p.made;
      unmade = [];
      asked = append-nil _ ∙ p.asked;
      untold = [];
      got = sent_by p.records;
      lost = [];
      sent = sym (append-nil (sent_by p.records));
      rest = omega arith;
      moved = moved_as (sym (append-nil (bytes_over ts))) refl (moved_both o p.moved);
    }

    sum_whole : {b : Port H h l} {k₀ k : Known} {ts : List TurnAt} {m : Moment O H h l} (o : Moved [] [] k₀ k) (p : Over b k ts m) → IsWhole (sum_of o p)
    unfolding sum_of
    sum_whole o p = record { unmade = refl; untold = refl; lost = refl }

    sum_lost : {start : Instant} {b : Port H h l} {k₀ k : Known} {ts : List TurnAt} {m m' : Moment O H h l} {t : Turn} {e : Error} →
        Moved [] [] k₀ k → Over b k ts m → ReplyLost op start m t e m' → Sum b m'.port k₀ (known m'.outside)
    sum_lost {b = b} {ts = ts} {m = m} {m' = m'} {t = t} o p r =
        let f = r.failed in
        let rs = f.last ∷ f.before in
        let made = calls_on_then p.made f.made in
        let q = parted (replies f.before) f.written in
        let part = lost_part q.2 in
        let bytes = f.last.fed.sent in
        record {
          turns = at t m'.time ∷ ts;
          rising = later _ t m'.time p r.time;
          records = rs ++ p.records;
          made = made;
          room = room_both p.records rs p.room f.room;
          law = behind_on made;
          unmade = f.left;
          asked =
              ap (λ (l : List Call). l ++ f.left) (sym (calls_of_both p.records rs))
              ∙ append_assoc (calls_of p.records) (calls_of rs) f.left
              ∙ ap (λ (l : List Call). l ++ (calls_of rs ++ f.left)) p.asked
              ∙ ap (λ (l : List Call). calls_over b.ticks ts ++ l) f.asked
              ∙ ap (λ (u : Ticks). calls_over b.ticks ts ++ calls_in t.bytes (owed u m'.time)) p.ticks;
          untold = [];
          got = sent_by p.records ++ (sent_by f.before ++ take part.0 bytes);
          lost = drop part.0 bytes;
          sent =
              sym (sent_by_both p.records rs)
              ∙ ap (λ (l : List ℕ). sent_by p.records ++ (sent_by f.before ++ l)) (sym (take-append-drop part.0 bytes))
              ∙ ap (λ (l : List ℕ). sent_by p.records ++ l) (sym (append_assoc (sent_by f.before) (take part.0 bytes) (drop part.0 bytes)))
              ∙ sym (append_assoc (sent_by p.records) (sent_by f.before ++ take part.0 bytes) (drop part.0 bytes));
          rest = omega (arith, length-drop part.0 bytes);
          moved = moved_as (ap (λ (l : List ℕ). bytes_over ts ++ l) (append-nil t.bytes) ∙ sym (append-nil _)) refl
              (moved_both o (moved_both p.moved (moved_both (begun_moved r.begun) (moved_both (replies_moved f.before q.1) part.1))));
        }

    pub sums : {b b' : Port H h l} {x y : O} {r : Result Finish Error} → Served op b x r b' y → Sums b (known x) r b' (known y)
    sums (turns.unstarted o) = nothing_made (means _ _ _ o)
    sums (turns.finished start t o p q) = let u = over_more (over p).1 q in (sum_of (means _ _ _ o) u, sum_whole (means _ _ _ o) u)
    sums (turns.failed start o p (turns.at_read r e)) = sum_read (means _ _ _ o) (over p).1 (read_failed r) e
    sums (turns.failed start o p (turns.at_clock bytes r c e)) =
        sum_read (means _ _ _ o) (over p).1 (moved_as (append-nil bytes) refl (moved_both (read_moved r) (means _ _ _ c))) e
    sums (turns.failed start o p (turns.at_reply t r)) = sum_lost (means _ _ _ o) (over p).1 r
