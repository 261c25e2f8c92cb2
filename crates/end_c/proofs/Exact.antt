-- Our heads leave nothing to choose, over any calls.
use Rattle.std.proofs.Common.{◌≡◌, ℕ, Bool, true, false, inl, inr, List, Ok, Err, Result, ℤ, sym, ap, ◌∙◌, refl, subst}
use Rattle.end.specs.declared.end.End.{End}
use Rattle.end.specs.Deeds.{Deed, nothing, clears, cancels, starts, displaces, ticks, HeadCalls, both_idle}
use Rattle.end.specs.Ends.{CallsOn}
use Rattle.end.specs.Ends as ends
use Rattle.end.specs.Records.{Record}
use Rattle.end.specs.Runs as runs
use Rattle.end.specs.States.{InRange, meaning, state}
use Rattle.end.specs.Steps.{Made, deed_of}
use Rattle.end.proofs.Runs.{served_run, call_law}
use Rattle.head.specs.declared.order.Order.{Order}
use Rattle.head.specs.declared.outcome.Endings.{Endings}
use Rattle.head.specs.declared.outcome.Refusal.{Refusal}
use Rattle.head.specs.declared.setting.Setting.{Setting}
use Rattle.head.specs.declared.traits.Head.{Ghosts as HeadGhosts}
use Rattle.head.specs.declared.traits.Look.{Ghosts as LookGhosts}
use Rattle.head.specs.Meaning.{Meaning, busy, put}
use Rattle.heads.specs.declared.gear.Gear.{Ghosts as GearGhosts}
use Rattle.heads.specs.declared.geared.Geared.{Geared}
use Rattle.heads.specs.declared.motion.Motion.{Motion}
use Rattle.heads.specs.declared.rig.Rig.{Rig}
use Rattle.head.specs.Works.{slots_of}
use Rattle.heads.specs.Exact.{ticks_of}
use Rattle.heads.specs.Geared.{gear_of, geared_meaning, GearStarts, GearTicks, GearDrops}
use Rattle.head.specs.Settings.{about}
use Rattle.heads.specs.declared.any.HeadKind.{HeadKind}
use Rattle.end_c.specs.declared.asked.Asked.{Asked}
use Rattle.heads.specs.Heads.{motion_of}
use Rattle.end_c.specs.Asked.{dome_kind}
use Rattle.end_c.specs.Calls.{AskedRun}
use Rattle.heads.specs.Any.{can_turn}
use Rattle.end_c.specs.Played.{Takes, Exactly, ExactRun, made, then, NewHead, OurRun, moves_as}

exactly_as : (g : Motion) (d : Deed) {m n m' n' : Meaning} → m' ≡ m → n' ≡ n → Exactly g d m' n' → Exactly g d m n
exactly_as g d {m = m} {n' = n'} e f p = subst (λ (z : Meaning). Exactly g d m z) f (subst (λ (z : Meaning). Exactly g d z n') e p)

module _ {G : Type 0} {g : GearGhosts G} {h : HeadGhosts (Geared G g)} {l : LookGhosts (Geared G g)}
    (starting : (x : Geared G g) (y : ℕ) (o : Order) (r : Result (Unit {0}) Refusal) (z : Geared G g) → h.started x y o r z →
    GearStarts (g.ticks (geared_meaning x).setting o) x y o r z)
    (ticking : (x : Geared G g) (e : Endings) (z : Geared G g) → h.ticked x e z → GearTicks (g.motion (gear_of x)) x e z)
    (dropping : (x : Geared G g) (y : ℕ) (z : Geared G g) → h.dropped x y z → GearDrops x y z)
    (means : (x : Geared G g) → geared_meaning x ≡ meaning l h.slots x)
    (chosen : (k : G) (f : Setting → ℤ) (o : Order) → ticks_of (g.motion k) f o ≡ g.ticks f o) where
  takes : (x : Geared G g) (y : ℕ) (o : Order) (r : Result (Unit {0}) Refusal) (z : Geared G g) →
      GearStarts (g.ticks (geared_meaning x).setting o) x y o r z → Takes (g.motion (gear_of x)) (geared_meaning x) y o (geared_meaning z)
  takes x y o (Ok u) z p =
      inr (p.ticks ∙ ap (λ (n : ℕ). put (geared_meaning x).slots y (busy o n)) (sym (chosen (gear_of x) (geared_meaning x).setting o)))
  takes x y o (Err e) z p = inl (ap (λ (r : Rig). slots_of r.works) p.refused)

  exactly : (d : Deed) (x z : Geared G g) → HeadCalls h d x z → Exactly (g.motion (gear_of x)) d (geared_meaning x) (geared_meaning z) × (gear_of z ≡ gear_of x)
  exactly nothing x z p = (tt, ap gear_of p)
  exactly clears x z p = (tt, (dropping _ _ _ p.two).gear ∙ (dropping _ _ _ p.one).gear)
  exactly (cancels y) x z p = (tt, (dropping _ _ _ p).gear)
  exactly (starts y o) x z p = let s = starting _ _ _ _ _ p.started in (takes x y o p.answer z s, s.gear)
  exactly (displaces y o) x z p =
      let d = dropping _ _ _ p.dropped in
      let s = starting _ _ _ _ _ p.starts.started in
      let t = takes p.between y o p.starts.answer z s in
      ((geared_meaning p.between, d.dropped, subst (λ (k : G). Takes (g.motion k) (geared_meaning p.between) y o (geared_meaning z)) d.gear t), s.gear ∙ d.gear)
  exactly (ticks e) x z p = let s = ticking _ _ _ p in (s.exact, s.gear)

  exact_run : {m : Meaning} {x x' : End (Geared G g) h l} {rs : List Record} → Made m (state x) → InRange (state x) → CallsOn x rs x' →
      ExactRun (g.motion (gear_of (ends.head_of x))) m rs (state x') × (gear_of (ends.head_of x') ≡ gear_of (ends.head_of x))
  exact_run new inside ends.CallsOn.none = (made new, refl)
  exact_run {x' = x''} new inside (ends.CallsOn.then {x' = x'} r c step ranged head) =
      let p = exact_run new inside c in
      let q = exactly (deed_of (state x') r) (ends.head_of x') (ends.head_of x'') head in
      let same = subst (λ (k : G). Exactly (g.motion k) (deed_of (state x') r) (geared_meaning (ends.head_of x')) (geared_meaning (ends.head_of x''))) p.1 q.0 in
      let law = call_law r (state x'') (served_run c (runs.Run.made new inside)) step in
      (then r p.0 step (exactly_as _ (deed_of (state x') r) (means _) (means _) same) law, q.1 ∙ p.1)

  pub our_run : (k : HeadKind) (given : Geared G g) {asked : List Asked} {run : List Record} {x' : End (Geared G g) h l} →
      g.motion (gear_of given) ≡ moves_as k → g.PAN_TILT ≡ can_turn k → ((s : Setting) → (geared_meaning given).setting s ≡ (about s).first) →
      (geared_meaning given).slots ≡ both_idle → AskedRun given asked run x' → OurRun k asked run
  our_run k given {run = run} {x' = x'} moves pantilt settings slots p =
      let m = meaning l h.slots given in
      let gear = (exactly clears given (ends.head_of p.first) p.head).1 in
      let new : NewHead k (geared_meaning given) = record { settings = settings; slots = slots; pantilt = pantilt } in
      record {
        head = m;
        new = subst (λ (z : Meaning). NewHead k z) (means given) new;
        last = state x';
        exact = subst (λ (d : Motion). ExactRun d m run (state x')) (ap (λ (v : G). g.motion v) gear ∙ moves) (exact_run p.made p.ranged p.calls.served).0;
        calls = p.calls.calls;
      }

-- A dome, stalled or not.

pub dome_moves : (stalled : Bool) → motion_of stalled ≡ moves_as (dome_kind stalled)
dome_moves true = refl
dome_moves false = refl

pub dome_turns : (stalled : Bool) → true ≡ can_turn (dome_kind stalled)
dome_turns true = refl
dome_turns false = refl
