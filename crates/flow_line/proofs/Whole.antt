-- What a closed line's journal is.
use Rattle.std.proofs.Common.{◌≡◌, ℕ, ◌==◌, ◌<◌, ◌≤◌, Bool, true, ◌&&◌, ◌||◌, List, [], ◌∷◌, ◌++◌, length, ap, sym, ◌∙◌, append_assoc, append-nil, length-append, arith, All, Some, None, ltb}
use Rattle.std.proofs.lemmas.Bool.Decides.{nat_tests}
use Rattle.std.specs.List.{sum_by}
use Rattle.std.specs.Option.{is_some}
use Rattle.std.specs.declared.option.Option.{Option}
use Rattle.flow_item.specs.declared.event.Party.{Party}
use Rattle.flow_item.specs.declared.event.Parties.{Parties}
use Rattle.flow_line.specs.declared.view.About.{About}
use Rattle.flow_line.specs.Journal.{is_legal, is_legal_from, may_follow, is_enabled, has_room}
use Rattle.flow_line.specs.Values.{Sitting, IsPart, IsWhole}
use Rattle.flow_line.proofs.Legal.{first_true, second_true, legal_events}

unless_none : (n s i : ℕ) (b : Bool) → (((n == 0) || ltb s i) && b) ≡ true → 0 < n → s < i
unless_none n s i b h more = grind (arith, nat_tests)

module _ {E S : Type 0} (parties_of : E → Parties) (births_of : E → ℕ) (allows : S → Party → List E → E → Bool) where
  -- each event of a legal journal found room
  room_before : (about : About S) (start before after : List E) (e : E) → is_legal_from parties_of births_of allows about start (before ++ e ∷ after) ≡ true
      → has_room births_of about (start ++ before) e ≡ true
  room_before about start [] after e l =
      let first = first_true (may_follow parties_of births_of allows about start e) (is_legal_from parties_of births_of allows about (start ++ e ∷ []) after) l in
      let room = second_true (is_enabled parties_of births_of allows about.setup start e) (has_room births_of about start e) first in
      ap (λ es. has_room births_of about es e) (append-nil start) ∙ room
  room_before about start (x ∷ before) after e l =
      let rest = second_true (may_follow parties_of births_of allows about start x) (is_legal_from parties_of births_of allows about (start ++ x ∷ []) (before ++ e ∷ after)) l in
      ap (λ es. has_room births_of about es e) (sym (append_assoc start (x ∷ []) before)) ∙ room_before about (start ++ x ∷ []) before after e rest

  -- a legal journal is no longer than its limit
  pub legal_short : (about : About S) (start es : List E) → length start ≤ about.events → is_legal_from parties_of births_of allows about start es ≡ true
      → length (start ++ es) ≤ about.events
  legal_short about start [] le l = let e = length-append start [] in omega (arith, le, e)
  legal_short about start (x ∷ es) le l =
      let first = first_true (may_follow parties_of births_of allows about start x) (is_legal_from parties_of births_of allows about (start ++ x ∷ []) es) l in
      let room = second_true (is_enabled parties_of births_of allows about.setup start x) (has_room births_of about start x) first in
      let short : ltb (length start) about.events ≡ true = second_true ((births_of x == 0) || ltb (sum_by births_of start) about.items) (ltb (length start) about.events) room in
      let less : length start < about.events = grind (arith, nat_tests) in
      let one = length-append start (x ∷ []) in
      let rest = legal_short about (start ++ x ∷ []) es (omega (arith, less, one))
      (second_true (may_follow parties_of births_of allows about start x) (is_legal_from parties_of births_of allows about (start ++ x ∷ []) es) l) in
      let joined : length ((start ++ x ∷ []) ++ es) ≡ length (start ++ x ∷ es) = ap length (append_assoc start (x ∷ []) es) in
      omega (arith, rest, joined)

  -- a legal journal, of which these chairs have parts
  pub whole : (about : Option (About S)) (log : List E) (chairs : List (Sitting E S)) → is_some about ≡ true → is_legal parties_of births_of allows about log ≡ true
      → All (IsPart parties_of about log) chairs → IsWhole parties_of births_of allows log chairs
  whole None log chairs told l parts = absurd cc
  whole (Some about) log chairs told l parts = record {
    about = about;
    legal = legal_events parties_of births_of allows about [] log l;
    births = λ before after e is more.
        let room = room_before about [] before after e (ap (λ es. is_legal_from parties_of births_of allows about [] es) (sym is) ∙ l) in
        unless_none (births_of e) (sum_by births_of before) about.items (ltb (length before) about.events) room more;
    short = legal_short about [] log (omega arith) l;
    parts = parts;
  }
