-- Calls that numbers ask for, one after the other.
use Rattle.std.proofs.Common.{◌≡◌, ℕ, ◌+◌, ◌<◌, take, get_or, map, List, [], ◌∷◌, ◌++◌, length, sym, ap, ◌∙◌, refl, subst}
use Rattle.std.proofs.lemmas.List.{map-append, take_more}
use Rattle.std.proofs.Math.Seq.{take-length}
use Rattle.end.specs.declared.call.Call.{Call}
use Rattle.end.specs.declared.end.End.{End}
use Rattle.end.specs.Ends.{TakesOver}
use Rattle.end.specs.Ends as ends
use Rattle.end.specs.Records.{Record}
use Rattle.end.specs.States.{InRange, meaning, state}
use Rattle.end.specs.Steps.{Made}
use Rattle.head.specs.declared.traits.Head.{Ghosts as HeadGhosts}
use Rattle.head.specs.declared.traits.Look.{Ghosts as LookGhosts}
use Rattle.end_c.specs.declared.asked.Asked.{Asked}
use Rattle.end_c.specs.Asked.{with_room}
use Rattle.end_c.specs.Calls.{asked_in, AskedCall, AskedCalls, AskedRun}

module _ {H : Type 0} {h : HeadGhosts H} {l : LookGhosts H} where
  pub none_asked : {x : End H h l} → AskedCalls [] x [] x
  none_asked = record { calls = refl; served = ends.CallsOn.none }

  one_more : {asked : List Asked} {a : Asked} {x : End H h l} {run : List Record} {x' : End H h l} {r : Record} {x'' : End H h l} →
      AskedCalls asked x run x' → AskedCall a x' r x'' → AskedCalls (asked ++ a ∷ []) x (r ∷ run) x''
  one_more {asked = asked} {r = r} p c = record {
    calls = ap (λ (made : List Asked). made ++ asked_in r ∷ []) p.calls ∙ ap (λ (a : Asked). asked ++ a ∷ []) c.call;
    served = ends.CallsOn.then r p.served c.step c.ranged c.head;
  }

  -- the call that the next number asks for
  pub next_asked : (f : ℕ → Asked) (numbers : List ℕ) (i : ℕ) {x : End H h l} {run : List Record} {x' : End H h l} {r : Record} {x'' : End H h l} → i < length numbers →
      AskedCalls (map f (take i numbers)) x run x' → AskedCall (f (get_or numbers i 0)) x' r x'' → AskedCalls (map f (take (i + 1) numbers)) x (r ∷ run) x''
  next_asked f numbers i {x = x} {run = run} {r = r} {x'' = x''} lt p c =
      let more = map-append f (take i numbers) (get_or numbers i 0 ∷ []) in
      subst (λ (asked : List Asked). AskedCalls asked x (r ∷ run) x'') (sym more ∙ ap (λ (ns : List ℕ). map f ns) (sym (take_more numbers i 0 lt))) (one_more p c)

  -- all of them, on an end just made
  pub all_asked : (f : ℕ → Asked) (numbers : List ℕ) (i : ℕ) {given : H} {first : End H h l} {run : List Record} {x : End H h l} → i ≡ length numbers →
      TakesOver given first → Made (meaning l h.slots given) (state first) → InRange (state first) →
      AskedCalls (map f (take i numbers)) first run x → AskedRun given (map f numbers) run x
  all_asked f numbers i {first = first} {run = run} {x = x} e head made ranged p = record {
    first = first;
    head = head;
    made = made;
    ranged = ranged;
    calls = subst (λ (ns : List ℕ). AskedCalls (map f ns) first run x) (ap (λ (m : ℕ). take m numbers) e ∙ take-length numbers) p;
  }

pub same : {c c' : Call} {r r' : ℕ} → c ≡ c' → r ≡ r' → with_room c r ≡ with_room c' r'
same {c' = c'} {r = r} e f = ap (λ (d : Call). with_room d r) e ∙ ap (λ (m : ℕ). with_room c' m) f
