-- From what the steps of a command come to, to what it promises.
use Rattle.std.proofs.Common.{◌≡◌, ◌⊎◌, ◌∙◌, ◌<◌, ◌≤◌, ◌+◌, ◌^◌, ℕ, Bool, true, false, nat_lt, Option, Some, None, Result, Ok, Err, List, [], ◌∷◌, ◌++◌, length, map, refl, sym, ap, subst, inl, inr, arith}
use Rattle.std.specs.Prelude.{⊤, is_some, is_none, IfSome, take}
use Rattle.std.specs.List.{list_all}
use Rattle.std.proofs.lemmas.List.{append-nil}
use Rattle.flow_item.specs.declared.event.Event.{Event}
use Rattle.flow_item.specs.Events.{births}
use Rattle.flow_item.proofs.Tests.{and_left, and_right, both_true}
use Rattle.flow_shape.specs.declared.Kind.{Kind}
use Rattle.flow_shape.specs.declared.Kind.TheVariants as K
use Rattle.flow_shape.specs.declared.ShapeFault.{ShapeFault}
use Rattle.flow_shape.specs.Rules.{first_fault, IsValid}
use Rattle.flow_machine.specs.Machine.{is_legal, is_run}
use Rattle.flow_machine.specs.Bodies.{Meanings}
use Rattle.flow_node.specs.Built.{is_built}
use Rattle.flow_node.specs.Readied.{Readied}
use Rattle.flow_nodes.specs.Stepping.{node_of}
use Rattle.flow_print.specs.Replayed.{AreStates}
use Rattle.flow_doc.specs.Fits.{doc_fits, kind_fits}
use Rattle.flow_doc.specs.declared.Doc.{Doc}
use Rattle.flow_doc.specs.declared.Kept.{Kept}
use Rattle.flow_doc.specs.declared.DocFault.{DocFault}
use Rattle.flow_doc.specs.declared.DocFault.TheVariants as D
use Rattle.flow_doc.specs.Fields.{Fails}
use Rattle.flow_doc.specs.Reading.{document}
use Rattle.flow_io.specs.Streams.{Gives, Grows, GrowsByPart, IsAtEnd}
use Rattle.flow_io.specs.Whole.{Took, most_read}
use Rattle.flow_print.specs.declared.status.Status.{Status}
use Rattle.flow_print.specs.declared.status.Status.TheVariants as S
use Rattle.flow_print.specs.Faults.{words_text, read_text, memory_text, fault_status, fault_text}
use Rattle.flow_print.specs.Outputs.{Ending, bad_words, unread, no_memory, bad_document, bad_line, output, ending_status, ending_text, IsWritten}
use Rattle.flow_print.specs.Report.{run_status, run_report, report, MayBePrinted}
use Rattle.flow_work.specs.Promises.{IsFresh}
use Rattle.flow_cli.specs.declared.input.TheConstants.{OFFERED}
use Rattle.flow_cli.specs.declared.words.Options.{Options}
use Rattle.flow_cli.specs.declared.input.InputFault.{InputFault}
use Rattle.flow_cli.specs.declared.input.InputFault.TheVariants as I
use Rattle.flow_cli.specs.Plain.{IsRead, IsRefused, KeepsDocument, OfRun, IsLegalRun, IsRefusedLast, FollowsCallers, HeedsCallers, AgreesThroughout, IsDone, HasDone, HasStopped, IsCaused, IsDueTo, IsDue, IsEnding, IsPrinted}
use Rattle.flow_cli.specs.Steps.{Reads, IsSaid, IsEnded, fault_ending, report_ending, IsRun, IsAnswer, IsWhole}
use Rattle.flow_cli.proofs.Built.{too_long, never_long}

length_both : (xs ys : List ℕ) → length (xs ++ ys) ≡ length xs + length ys
length_both [] ys = omega arith
length_both (x ∷ xs) ys = let rest = length_both xs ys in omega (arith, rest)

-- ---- what was read

pub reads_fault : (shelf : List (List ℕ)) (before after : Option (List ℕ)) (fault : DocFault) (bytes : List ℕ) → Gives before bytes after → IsAtEnd after → length bytes ≤ most_read → Fails fault (document OFFERED shelf bytes) → Reads shelf before after (Err (I.Bad fault))
reads_fault shelf before after D.TooLong bytes gives end short h = absurd (never_long shelf bytes short h)
reads_fault shelf before after D.Syntax bytes gives end short h = record { bytes = bytes; taken = gives; whole = end; short = short; is = h }
reads_fault shelf before after (D.Place path want) bytes gives end short h = record { bytes = bytes; taken = gives; whole = end; short = short; is = h }
reads_fault shelf before after (D.Shape fault) bytes gives end short h = record { bytes = bytes; taken = gives; whole = end; short = short; is = h }
reads_fault shelf before after D.Memory bytes gives end short h = tt

-- ---- what is said

pub says_words : (status : Status) (old new : Option (List ℕ)) → IsSaid words_text S.Words status old new → IsWritten bad_words status old new
says_words status old new (inl h) = rw h.0 (refl, h.1)
says_words status old new (inr h) = rw h.0 h.1

pub says_read : (status : Status) (old new : Option (List ℕ)) → IsSaid read_text S.Read status old new → IsWritten unread status old new
says_read status old new (inl h) = rw h.0 (refl, h.1)
says_read status old new (inr h) = rw h.0 h.1

pub says_memory : (status : Status) (old new : Option (List ℕ)) → IsSaid memory_text S.Memory status old new → IsWritten no_memory status old new
says_memory status old new (inl h) = rw h.0 (inl h.1)
says_memory status old new (inr h) = rw h.0 h.1

pub says_fault : (fault : DocFault) (status : Status) (old new : Option (List ℕ)) → IsSaid (fault_text fault) (fault_status fault) status old new → IsWritten (bad_document fault) status old new
says_fault D.TooLong status old new (inl h) = rw h.0 (refl, h.1)
says_fault D.Syntax status old new (inl h) = rw h.0 (refl, h.1)
says_fault (D.Place path want) status old new (inl h) = rw h.0 (refl, h.1)
says_fault (D.Shape fault) status old new (inl h) = rw h.0 (refl, h.1)
says_fault D.Memory status old new (inl h) = rw h.0 (inl h.1)
says_fault fault status old new (inr h) = rw h.0 h.1

pub ended_said : (fault : DocFault) (text : List ℕ) (own status : Status) (old new : Option (List ℕ)) → text ≡ fault_text fault → own ≡ fault_status fault → IsSaid text own status old new → IsEnded (bad_document fault) status old new
ended_said fault text own status old new words same said = record {
  last = bad_document fault;
  is = inl refl;
  written = says_fault fault status old new (subst (λ (t : List ℕ). IsSaid t (fault_status fault) status old new) words (subst (λ (s : Status). IsSaid text s status old new) same said));
}

-- ---- what is printed

whole_at : (refused : Option Event) (text : List ℕ) (old new : Option (List ℕ)) → Grows old text new → IsWritten (output (run_status refused) text) (run_status refused) old new
whole_at None text old new g = (refl, g)
whole_at (Some e) text old new g = (refl, g)

module _ (options : Options) (kept : Kept) (status : Status) (same : status ≡ run_status kept.refused) (old new : Option (List ℕ)) where
  as_run : (Holds : List ℕ → Type 0) → Holds (report kept status options.journal) → Holds (run_report kept options.journal)
  as_run Holds h = subst (λ (s : Status). Holds (report kept s options.journal)) same h

  pub ended_whole : Grows old (report kept status options.journal) new → IsEnded (report_ending options kept) status old new
  ended_whole g = record {
    last = report_ending options kept;
    is = inl refl;
    written = subst (λ (s : Status). IsWritten (report_ending options kept) s old new) (sym same) (whole_at kept.refused (run_report kept options.journal) old new (as_run (λ text. Grows old text new) g));
  }

  pub ended_part : GrowsByPart old (report kept status options.journal) new → IsEnded (report_ending options kept) S.Write old new
  ended_part g = record { last = report_ending options kept; is = inl refl; written = as_run (λ text. GrowsByPart old text new) g }

  pub ended_cut : ((n : ℕ) × (0 < n) × Grows old (take n (report kept status options.journal)) new) → IsEnded (report_ending options kept) S.Memory old new
  ended_cut g = record { last = report_ending options kept; is = inl refl; written = inr (as_run (λ text. (n : ℕ) × (0 < n) × Grows old (take n text) new) g) }

-- the report was cut for want of memory, and what was written was sent on, unless that failed
pub ended_sent : (options : Options) (kept : Kept) (status : Status) → status ≡ run_status kept.refused → (old mid new : Option (List ℕ)) (result : Status) → ((n : ℕ) × (0 < n) × Grows old (take n (report kept status options.journal)) mid) → new ≡ mid → (result ≡ S.Memory) ⊎ (result ≡ S.Write) → IsEnded (report_ending options kept) result old new
ended_sent options kept status same old mid new result g stays (inl e) = rw (e, stays) (ended_cut options kept status same old mid g)
ended_sent options kept status same old mid new result g stays (inr e) = rw (e, stays) (ended_part options kept status same old mid (g.0, g.2))

no_fault : (o : Option ShapeFault) → is_none o ≡ true → o ≡ None
no_fault None h = refl
no_fault (Some fault) h = cc

-- what a run keeps may be printed
pub may_print : (bodies workers : ℕ) (doc : Doc) (kept : Kept) → doc_fits bodies doc ≡ true → births kept.journal ≤ 2 ^ 63 → kept.doc ≡ Some doc → is_run doc.shape (length doc.scripts) workers kept.journal ≡ true → MayBePrinted kept.doc kept.journal
may_print bodies workers doc kept fits few document run =
    let valid : IsValid doc.shape = no_fault (first_fault doc.shape) (and_left _ _ (and_left _ _ (and_left _ _ (and_left _ _ (and_left _ _ fits))))) in
    let legal : is_legal doc.shape kept.journal ≡ true = and_left (is_legal doc.shape kept.journal) _ run in
    rw document (valid, legal, few)

-- want of memory has one line, whoever tells it
fault_memory : (status : Status) (old new : Option (List ℕ)) → IsWritten (bad_document D.Memory) status old new → IsWritten no_memory status old new
fault_memory S.Memory old new (inl h) = inl h
fault_memory S.Memory old new (inr h) = absurd h
fault_memory status old new h = h

pub ended_fault : (fault : DocFault) (status : Status) (old new : Option (List ℕ)) → IsEnded (bad_document fault) status old new → IsEnded (fault_ending (I.Bad fault)) status old new
ended_fault D.Memory status old new e = record {
  last = no_memory;
  is = inr refl;
  written = by_last e.is;
}
  where
    by_last : (e.last ≡ bad_document D.Memory) ⊎ (e.last ≡ no_memory) → IsWritten no_memory status old new
    by_last (inl same) = fault_memory status old new (subst (λ (x : Ending). IsWritten x status old new) same e.written)
    by_last (inr same) = subst (λ (x : Ending). IsWritten x status old new) same e.written
ended_fault D.TooLong status old new e = e
ended_fault D.Syntax status old new e = e
ended_fault (D.Place path want) status old new e = e
ended_fault (D.Shape fault) status old new e = e

-- ---- statuses

-- writing failed, memory ran out, or the status is the ending's
pub status_of : (ending : Ending) (status : Status) (old new : Option (List ℕ)) → IsWritten ending status old new → (status ≡ S.Write) ⊎ ((status ≡ S.Memory) ⊎ (status ≡ ending_status ending))
status_of ending S.Write old new h = inl refl
status_of ending S.Memory old new h = inr (inl refl)
status_of ending status old new h = inr (inr h.0)

-- ---- causes

module _ (shelf : List (List ℕ)) (asked : Option Options) (before after : Option (List ℕ)) (kept : Kept) where
  by_run : (doc : Option Doc) (refused : Option Event) (status : Status) → kept.doc ≡ doc → is_some doc ≡ true → kept.refused ≡ refused → status ≡ run_status refused → (status ≡ S.Done → HasDone kept) → IsCaused shelf status asked before after kept
  by_run None refused status at some is same done = cc
  by_run (Some doc) None status at some is same done = rw same (done same)
  by_run (Some doc) (Some e) status at some is same done = rw same (record { doc = doc; is = at; event = e; refused = is })

  cause_of : (ending : Ending) → IsEnding shelf asked before after kept ending → (ending_status ending ≡ S.Done → HasDone kept) → IsCaused shelf (ending_status ending) asked before after kept
  cause_of bad_words is done = is
  cause_of unread is done = tt
  cause_of no_memory is done = tt
  cause_of (bad_document D.TooLong) is done = is.1
  cause_of (bad_document D.Syntax) is done = is.1
  cause_of (bad_document (D.Place path want)) is done = (D.Place path want, refl, is.1)
  cause_of (bad_document (D.Shape fault)) is done = (D.Shape fault, refl, is.1)
  cause_of (bad_document D.Memory) is done = tt
  cause_of (bad_line k) is done = absurd is
  cause_of (output status text) is done = by_run kept.doc kept.refused status refl is.2 refl is.3 done

  pub causes : (status : Status) (old new : Option (List ℕ)) → IsPrinted shelf asked before after kept status old new → (status ≡ S.Done → HasDone kept) → IsCaused shelf status asked before after kept
  causes status old new printed done = by_status (status_of printed.ending status old new printed.written)
    where
      by_status : (status ≡ S.Write) ⊎ ((status ≡ S.Memory) ⊎ (status ≡ ending_status printed.ending)) → IsCaused shelf status asked before after kept
      by_status (inl e) = rw e tt
      by_status (inr (inl e)) = rw e tt
      by_status (inr (inr e)) = rw e (cause_of printed.ending printed.is (λ same. done (e ∙ same)))

  -- ---- the other way round

  pub all_read : (all bytes : List ℕ) (read : Result Doc DocFault) → Gives (Some all) bytes after → IsAtEnd after → document OFFERED shelf bytes ≡ read → document OFFERED shelf all ≡ read
  all_read all bytes read gives end is = by_rest after gives end
    where
      by_rest : (rest : Option (List ℕ)) → Gives (Some all) bytes rest → IsAtEnd rest → document OFFERED shelf all ≡ read
      by_rest None g e = absurd g
      by_rest (Some rest) g e = let same : all ≡ bytes = g ∙ (ap (λ (r : List ℕ). bytes ++ r) e ∙ append-nil bytes) in rw same is

  too_many : (all taken : List ℕ) → Gives (Some all) taken after → nat_lt most_read (length taken) ≡ true → document OFFERED shelf all ≡ Err D.TooLong
  too_many all taken gives long = by_rest after gives
    where
      more : (rest : List ℕ) → nat_lt most_read (length (taken ++ rest)) ≡ true
      more rest = rw (length_both taken rest) (grind (arith))

      by_rest : (rest : Option (List ℕ)) → Gives (Some all) taken rest → document OFFERED shelf all ≡ Err D.TooLong
      by_rest None g = absurd g
      by_rest (Some rest) g = rw g (too_long shelf (taken ++ rest) (more rest))

  pub refused_all : (all : List ℕ) (fault : DocFault) → IsRefused shelf (Some all) after fault → document OFFERED shelf all ≡ Err fault
  refused_all all D.TooLong took = too_many all took.0 took.1 took.2
  refused_all all D.Syntax r = all_read all r.bytes (Err D.Syntax) r.taken r.whole r.is
  refused_all all (D.Place path want) r = all_read all r.bytes (Err (D.Place path want)) r.taken r.whole r.is
  refused_all all (D.Shape fault) r = all_read all r.bytes (Err (D.Shape fault)) r.taken r.whole r.is
  refused_all all D.Memory r = all_read all r.bytes (Err D.Memory) r.taken r.whole r.is

  by_bytes : (options : Options) (left : Option (List ℕ)) (read : Result Doc DocFault) (status : Status) → ((all : List ℕ) → left ≡ Some all → document OFFERED shelf all ≡ read) → IsDueTo read status → IsDue shelf (Some options) left status
  by_bytes options None read status told due = tt
  by_bytes options (Some all) read status told due = rw (told all refl) due

  due_refused : (o : Option Options) (fault : DocFault) → is_some o ≡ true → IsRefused shelf before after fault → IsDue shelf o before (fault_status fault)
  due_refused None fault some r = cc
  due_refused (Some options) fault some r = by_bytes options before (Err fault) (fault_status fault) (λ all e. refused_all all fault (subst (λ (b : Option (List ℕ)). IsRefused shelf b after fault) e r)) refl

  due_run : (refused : Option Event) (doc : Doc) → IsDueTo (Ok doc) (run_status refused)
  due_run None doc = inl refl
  due_run (Some e) doc = inr refl

  due_output : (options : Options) (o : Option Doc) → is_some o ≡ true → IfSome o (λ doc. IsRead shelf before after (Ok doc)) → IsDue shelf (Some options) before (run_status kept.refused)
  due_output options None some r = cc
  due_output options (Some doc) some r = by_bytes options before (Ok doc) (run_status kept.refused) (λ all e. let s : IsRead shelf (Some all) after (Ok doc) = subst (λ (b : Option (List ℕ)). IsRead shelf b after (Ok doc)) e r in all_read all s.bytes (Ok doc) s.taken s.whole s.is) (due_run kept.refused doc)

  -- the status of an ending, unless the source failed or memory ran out
  due_ending : (ending : Ending) → IsEnding shelf asked before after kept ending → IfSome kept.doc (λ doc. IsRead shelf before after (Ok doc)) → (ending_status ending ≡ S.Read → ⊥) → (ending_status ending ≡ S.Memory) ⊎ IsDue shelf asked before (ending_status ending)
  due_ending bad_words is doc never = inr (rw is refl)
  due_ending unread is doc never = absurd (never refl)
  due_ending no_memory is doc never = inl refl
  due_ending (bad_document fault) is doc never = inr (due_refused asked fault is.0 is.1)
  due_ending (bad_line k) is doc never = absurd is
  due_ending (output status text) is doc never = inr (rw (is.1, is.3) (due_output is.0 kept.doc is.2 doc))

  pub completes : (status : Status) (old new : Option (List ℕ)) → IsPrinted shelf asked before after kept status old new → KeepsDocument shelf asked before after kept → (status ≡ S.Read → ⊥) → (status ≡ S.Write → ⊥) → (status ≡ S.Memory) ⊎ IsDue shelf asked before status
  completes status old new printed keeps reads writes = by_status (status_of printed.ending status old new printed.written)
    where
      by_status : (status ≡ S.Write) ⊎ ((status ≡ S.Memory) ⊎ (status ≡ ending_status printed.ending)) → (status ≡ S.Memory) ⊎ IsDue shelf asked before status
      by_status (inl e) = absurd (writes e)
      by_status (inr (inl e)) = inl e
      by_status (inr (inr e)) = rw e (due_ending printed.ending printed.is keeps.read (λ same. reads (e ∙ same)))

  -- ---- what is left

  -- without a document nothing was run
  pub answers_without : (meanings : Meanings) (status : Status) (old new : Option (List ℕ)) → kept.doc ≡ None → IsFresh kept → IsPrinted shelf asked before after kept status old new → IsAnswer shelf meanings asked before after kept status old new
  answers_without meanings status old new none fresh printed = record {
    document = record {
      read = (rw none tt);
      line = λ some. absurd (unlike kept.doc none some);
      empty = λ e. (fresh.journal, fresh.refused);
      live = fresh.live;
    };
    legal = λ options doc a d. absurd (unlike_some kept.doc doc none d);
    refused = λ options doc a d. absurd (unlike_some kept.doc doc none d);
    scripts = λ options doc a d. absurd (unlike_some kept.doc doc none d);
    waits = λ options doc a d. absurd (unlike_some kept.doc doc none d);
    throughout = λ options doc a d. absurd (unlike_some kept.doc doc none d);
    printed = printed;
    done = λ same. absurd (by_ending printed.ending printed.is same (status_of printed.ending status old new printed.written));
  }
    where
      unlike : (o : Option Doc) → o ≡ None → is_some o ≡ true → ⊥
      unlike None n s = cc
      unlike (Some doc) n s = cc

      unlike_some : (o : Option Doc) (doc : Doc) → o ≡ None → o ≡ Some doc → ⊥
      unlike_some None doc n s = cc
      unlike_some (Some d) doc n s = cc

      not_done : (ending : Ending) → IsEnding shelf asked before after kept ending → S.Done ≡ ending_status ending → ⊥
      not_done bad_words is e = cc
      not_done unread is e = cc
      not_done no_memory is e = cc
      not_done (bad_document D.TooLong) is e = cc
      not_done (bad_document D.Syntax) is e = cc
      not_done (bad_document (D.Place path want)) is e = cc
      not_done (bad_document (D.Shape fault)) is e = cc
      not_done (bad_document D.Memory) is e = cc
      not_done (bad_line k) is e = absurd is
      not_done (output s text) is e = unlike kept.doc none is.2

      by_ending : (ending : Ending) → IsEnding shelf asked before after kept ending → status ≡ S.Done → (status ≡ S.Write) ⊎ ((status ≡ S.Memory) ⊎ (status ≡ ending_status ending)) → ⊥
      by_ending ending is same (inl e) = cc
      by_ending ending is same (inr (inl e)) = cc
      by_ending ending is same (inr (inr e)) = not_done ending is (sym same ∙ e)

-- words that are no line
pub answers_words : (shelf : List (List ℕ)) (meanings : Meanings) (before : Option (List ℕ)) (asked : Option Options) (kept : Kept) (status : Status) (old new : Option (List ℕ)) → asked ≡ None → kept.doc ≡ None → IsFresh kept → IsSaid words_text S.Words status old new → IsAnswer shelf meanings asked before before kept status old new
answers_words shelf meanings before asked kept status old new bad none fresh said = answers_without shelf asked before before kept meanings status old new none fresh (record { ending = bad_words; is = bad; written = says_words status old new said })

-- memory ran out before anything was read
pub answers_memory : (shelf : List (List ℕ)) (meanings : Meanings) (before : Option (List ℕ)) (asked : Option Options) (kept : Kept) (status : Status) (old new : Option (List ℕ)) → kept.doc ≡ None → IsFresh kept → IsSaid memory_text S.Memory status old new → IsAnswer shelf meanings asked before before kept status old new
answers_memory shelf meanings before asked kept status old new none fresh said = answers_without shelf asked before before kept meanings status old new none fresh (record { ending = no_memory; is = tt; written = says_memory status old new said })

-- the source gave no document
pub answers_input : (shelf : List (List ℕ)) (meanings : Meanings) (before after : Option (List ℕ)) (options : Options) (fault : InputFault) (kept : Kept) (status : Status) (old new : Option (List ℕ)) → Reads shelf before after (Err fault) → kept.doc ≡ None → IsFresh kept → IsEnded (fault_ending fault) status old new → IsAnswer shelf meanings (Some options) before after kept status old new
answers_input shelf meanings before after options fault kept status old new reads none fresh ended = answers_without shelf (Some options) before after kept meanings status old new none fresh (record { ending = ended.last; is = by_last ended.is; written = ended.written })
  where
    is_of : (f : InputFault) → Reads shelf before after (Err f) → IsEnding shelf (Some options) before after kept (fault_ending f)
    is_of I.Unread r = refl
    is_of (I.Bad D.TooLong) r = (refl, r)
    is_of (I.Bad D.Syntax) r = (refl, r)
    is_of (I.Bad (D.Place path want)) r = (refl, r)
    is_of (I.Bad (D.Shape f)) r = (refl, r)
    is_of (I.Bad D.Memory) r = tt

    by_last : (ended.last ≡ fault_ending fault) ⊎ (ended.last ≡ no_memory) → IsEnding shelf (Some options) before after kept ended.last
    by_last (inl same) = rw same (is_of fault reads)
    by_last (inr same) = rw same tt

-- what is kept of a document that was run
pub keeps_read : (shelf : List (List ℕ)) (before after : Option (List ℕ)) (options : Options) (doc : Doc) (kept : Kept) → IsRead shelf before after (Ok doc) → kept.doc ≡ Some doc → kept.live ≡ [] → KeepsDocument shelf (Some options) before after kept
keeps_read shelf before after options doc kept read document live = record {
  read = rw document read;
  line = λ some. refl;
  empty = λ none. absurd (unlike kept.doc document none);
  live = live;
}
  where
    unlike : (o : Option Doc) → o ≡ Some doc → o ≡ None → ⊥
    unlike None s n = cc
    unlike (Some d) s n = cc

-- and what is printed of it
pub prints_run : (shelf : List (List ℕ)) (before after : Option (List ℕ)) (options : Options) (doc : Doc) (kept : Kept) (status : Status) (old new : Option (List ℕ)) → kept.doc ≡ Some doc → IsEnded (report_ending options kept) status old new → IsPrinted shelf (Some options) before after kept status old new
prints_run shelf before after options doc kept status old new document ended = record { ending = ended.last; is = by_last ended.is; written = ended.written }
  where
    by_last : (ended.last ≡ report_ending options kept) ⊎ (ended.last ≡ no_memory) → IsEnding shelf (Some options) before after kept ended.last
    by_last (inl same) = rw same (options, refl, (rw document refl), refl, refl)
    by_last (inr same) = rw same tt

pub same_doc : (o : Option Doc) (d e : Doc) → o ≡ Some d → o ≡ Some e → d ≡ e
same_doc None d e p q = cc
same_doc (Some x) d e p q = cc

-- a document was run
pub answers_run : (shelf : List (List ℕ)) (meanings : Meanings) (before after : Option (List ℕ)) (options : Options) (doc : Doc) (kept : Kept) (status : Status) (old new : Option (List ℕ)) → IsRead shelf before after (Ok doc) → IsRun meanings options doc kept → IsEnded (report_ending options kept) status old new → (status ≡ S.Done → IsWhole doc kept) → IsAnswer shelf meanings (Some options) before after kept status old new
answers_run shelf meanings before after options doc kept status old new read run ended whole = record {
  document = keeps_read shelf before after options doc kept read run.document run.live;
  legal = λ o d a e. of_run (IsLegalRun meanings) o d a e run.legal;
  refused = λ o d a e. of_run (IsRefusedLast meanings kept.refused) o d a e run.refused;
  scripts = λ o d a e. of_run FollowsCallers o d a e run.scripts;
  waits = λ o d a e. of_run HeedsCallers o d a e run.waits;
  throughout = λ o d a e. of_run AgreesThroughout o d a e run.throughout;
  printed = prints_run shelf before after options doc kept status old new run.document ended;
  done = λ same. record { doc = doc; is = run.document; none = (whole same).none; done = (whole same).done };
}
  where
    same_options : (o : Options) → Some options ≡ Some o → options ≡ o
    same_options o e = cc

    of_run : (Holds : Options → Doc → List Event → Type 0) (o : Options) (d : Doc) → Some options ≡ Some o → kept.doc ≡ Some d → Holds options doc kept.journal → Holds o d kept.journal
    of_run Holds o d a e h = subst (λ (x : Doc). Holds o x kept.journal) (same_doc kept.doc doc d run.document e) (subst (λ (x : Options). Holds x doc kept.journal) (same_options o a) h)

-- nodes that were brought in print order are those of the document as before
pub are_arranged : (doc : Option Doc) (es : List Event) (old new : List Readied) → map node_of new ≡ map node_of old → AreStates doc es old → AreStates doc es new
are_arranged None es old new same states = tt
are_arranged (Some doc) es old new same states = same ∙ states
