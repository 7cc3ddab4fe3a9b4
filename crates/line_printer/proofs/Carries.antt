-- Pieces that are printed one behind the other.
use Rattle.std.proofs.Common.{◌≡◌, ◌≤◌, ◌+◌, ℕ, Bool, true, false, List, [], ◌++◌, Option, Some, None, length, take, refl, sym, ap, ◌∙◌, subst, arith, length-append, append-nil, append_assoc}
use Rattle.std.proofs.lemmas.List.{take-append-le}
use Rattle.std.proofs.Math.Seq.{take-append-add}
use Rattle.std.specs.Io.KnownBytes.{Appends}
use Rattle.toast_io.specs.Faults.{HasRisen, NeverFalls}
use Rattle.toast_io.specs.Sink.{AppendsPart}
use Rattle.line_printer.specs.Carried.{SinkTold, PrinterState, Flows, Breaks, CarriedBy, Carried, Prints, WritesAll, WritesLess, first_printer}

-- what is appended twice is appended at once
appends_on : (a b c : Option (List ℕ)) (xs ys : List ℕ) → Appends a b xs → Appends b c ys → Appends a c (xs ++ ys)
appends_on None b c xs ys h k = tt
appends_on (Some x) None c xs ys h k = absurd h
appends_on (Some x) (Some y) None xs ys h k = absurd k
appends_on (Some x) (Some y) (Some z) xs ys h k = k ∙ ap (λ (v : List ℕ). v ++ ys) h ∙ append_assoc x xs ys

appends_none : (a : Option (List ℕ)) → Appends a a []
appends_none None = tt
appends_none (Some x) = sym (append-nil x)

-- some first bytes of a text are some of a longer one
part_longer : (a b : Option (List ℕ)) (xs ys : List ℕ) → AppendsPart a b xs → AppendsPart a b (xs ++ ys)
part_longer a b xs ys h =
    let within : h.count ≤ length xs = omega (arith, h.within) in
    record {
      count = h.count;
      within = omega (arith, h.within, length-append xs ys);
      appends = subst (Appends a b) (sym (take-append-le h.count xs ys within)) h.appends;
    }

-- some first bytes behind what was appended are some of all
part_behind : (a b c : Option (List ℕ)) (xs ys : List ℕ) → Appends a b xs → AppendsPart b c ys → AppendsPart a c (xs ++ ys)
part_behind a b c xs ys h k = record {
  count = length xs + k.count;
  within = omega (arith, k.within, length-append xs ys);
  appends = subst (Appends a c) (sym (take-append-add xs ys k.count)) (appends_on a b c xs (take k.count ys) h k.appends);
}

-- nothing was printed
pub carried_first : (start : SinkTold) → Carried start start first_printer []
carried_first start = record { count = omega arith; by = record { front = []; written = appends_none start.written; is = refl } }

-- one behind the other
pub prints_on : (a b c : SinkTold) (p q r : PrinterState) (xs ys : List ℕ) → Prints a b p q xs → Prints b c q r ys → Prints a c p r (xs ++ ys)
prints_on a b c p q r xs ys h k = record { on = λ start text carried. subst (Carried start c r) (append_assoc text xs ys) (k.on start (text ++ xs) (h.on start text carried)) }

-- nothing
pub prints_none : (a : SinkTold) (p : PrinterState) → Prints a a p p []
prints_none a p = record { on = λ start text carried. subst (Carried start a p) (sym (append-nil text)) carried }

-- what a printer carries, by whether a write has failed
flows_of : (start now : SinkTold) (p : PrinterState) (text : List ℕ) → p.failed ≡ false → Carried start now p text → Flows start now p.held text
flows_of start now p text e carried = subst (λ (b : Bool). CarriedBy b start now p.held text) e carried.by

breaks_of : (start now : SinkTold) (p : PrinterState) (text : List ℕ) → p.failed ≡ true → Carried start now p text → Breaks start now text
breaks_of start now p text e carried = subst (λ (b : Bool). CarriedBy b start now p.held text) e carried.by

-- a failed printer takes whatever it is given
pub breaks_on : (a : SinkTold) (p : PrinterState) (xs : List ℕ) → p.failed ≡ true → Prints a a p p xs
breaks_on a p xs e = record {
  on = λ start text carried. let was = breaks_of start a p text e carried in record {
    count = carried.count;
    by = subst (λ (b : Bool). CarriedBy b start a p.held (text ++ xs)) (sym e) (record { part = part_longer start.written a.written text xs was.part; cause = was.cause });
  };
}

-- and what was printed so far may go on in any way
pub breaks_more : (a b : SinkTold) (p q : PrinterState) (xs ys : List ℕ) → q.failed ≡ true → Prints a b p q xs → Prints a b p q (xs ++ ys)
breaks_more a b p q xs ys e h = prints_on a b b p q q xs ys h (breaks_on b q ys e)

-- a piece is held
pub holds_on : (a : SinkTold) (p q : PrinterState) (xs : List ℕ) → p.failed ≡ false → q.failed ≡ false → q.held ≡ p.held ++ xs → Prints a a p q xs
holds_on a p q xs e f is = record {
  on = λ start text carried. let was = flows_of start a p text e carried in record {
    count = carried.count;
    by = subst (λ (b : Bool). CarriedBy b start a q.held (text ++ xs)) (sym f) (record {
      front = was.front;
      written = was.written;
      is = ap (λ (v : List ℕ). v ++ xs) was.is ∙ append_assoc was.front p.held xs ∙ ap (λ (v : List ℕ). was.front ++ v) (sym is);
    });
  };
}

-- what was held is written
pub writes_on : (a b : SinkTold) (p q : PrinterState) → p.failed ≡ false → q.failed ≡ false → q.held ≡ [] → Appends a.written b.written p.held → NeverFalls a.faults b.faults → Prints a b p q []
writes_on a b p q e f none written never = record {
  on = λ start text carried. let was = flows_of start a p text e carried in record {
    count = omega (arith, carried.count, never);
    by = subst (λ (x : Bool). CarriedBy x start b q.held (text ++ [])) (sym f) (record {
      front = was.front ++ p.held;
      written = appends_on start.written a.written b.written was.front p.held was.written written;
      is = append-nil text ∙ was.is ∙ sym (append-nil (was.front ++ p.held)) ∙ ap (λ (v : List ℕ). was.front ++ p.held ++ v) (sym none);
    });
  };
}

breaks_at : (start a b : SinkTold) (p : PrinterState) (text : List ℕ) → Carried start a p text → Flows start a p.held text → AppendsPart a.written b.written p.held → HasRisen a.faults b.faults → Breaks start b text
breaks_at start a b p text carried was part risen =
    let count = carried.count in
    record {
      part = subst (AppendsPart start.written b.written) (sym was.is) (part_behind start.written a.written b.written was.front p.held was.written part);
      cause = omega (arith, count, risen);
    }

-- a write of what was held has failed
pub writes_less_on : (a b : SinkTold) (p q : PrinterState) → p.failed ≡ false → q.failed ≡ true → AppendsPart a.written b.written p.held → NeverFalls a.faults b.faults → HasRisen a.faults b.faults → Prints a b p q []
writes_less_on a b p q e f part never risen = record {
  on = λ start text carried. let broke = breaks_at start a b p text carried (flows_of start a p text e carried) part risen in record {
    count = omega (arith, carried.count, never);
    by = subst (λ (x : Bool). CarriedBy x start b q.held (text ++ [])) (sym f) (record { part = part_longer start.written b.written text [] broke.part; cause = broke.cause });
  };
}

-- the end
pub all_written : (a b : SinkTold) (p : PrinterState) → p.failed ≡ false → Appends a.written b.written p.held → WritesAll a b p
all_written a b p e written = record {
  on = λ start text carried. let was = flows_of start a p text e carried in subst (Appends start.written b.written) (sym was.is) (appends_on start.written a.written b.written was.front p.held was.written written);
}

pub less_written : (a b : SinkTold) (p : PrinterState) → p.failed ≡ false → AppendsPart a.written b.written p.held → HasRisen a.faults b.faults → WritesLess a b p
less_written a b p e part risen = record { on = λ start text carried. breaks_at start a b p text carried (flows_of start a p text e carried) part risen }

pub none_written : (a : SinkTold) (p : PrinterState) → p.failed ≡ true → WritesLess a a p
none_written a p e = record { on = λ start text carried. breaks_of start a p text e carried }

-- a line of five pieces
pub line_on : (a b c d e f : SinkTold) (p q r s t u : PrinterState) (before session dot number space reply feed : List ℕ) → Prints a b p q (before ++ session) → Prints b c q r (dot ++ number) → Prints c d r s space → Prints d e s t reply → Prints e f t u feed →
    Prints a f p u (before ++ session ++ dot ++ number ++ space ++ reply ++ feed)
line_on a b c d e f p q r s t u before session dot number space reply feed one two three four five =
    subst (λ (head : List ℕ). Prints a f p u (head ++ space ++ reply ++ feed)) (sym (append_assoc (before ++ session) dot number))
    (prints_on a e f p t u _ feed (prints_on a d e p s t _ reply (prints_on a c d p r s _ space (prints_on a b c p q r (before ++ session) (dot ++ number) one two) three) four) five)

-- what was printed from a new printer on
carried_from : (a b : SinkTold) (p q : PrinterState) (text : List ℕ) → p ≡ first_printer → Prints a b p q text → Carried a b q text
carried_from a b p q text first h = h.on a [] (subst (λ (x : PrinterState). Carried a a x []) (sym first) (carried_first a))

-- and what of it is written once the printer is finished
pub all_printed : (a b c : SinkTold) (p q : PrinterState) (text : List ℕ) → p ≡ first_printer → Prints a b p q text → WritesAll b c q → Appends a.written c.written text
all_printed a b c p q text first h w = w.on a text (carried_from a b p q text first h)

pub part_printed : (a b c : SinkTold) (p q : PrinterState) (text : List ℕ) → p ≡ first_printer → Prints a b p q text → WritesLess b c q → AppendsPart a.written c.written text
part_printed a b c p q text first h w = (w.on a text (carried_from a b p q text first h)).part

pub fault_printed : (a b c : SinkTold) (p q : PrinterState) (text : List ℕ) → p ≡ first_printer → Prints a b p q text → WritesLess b c q → HasRisen a.faults c.faults
fault_printed a b c p q text first h w = (w.on a text (carried_from a b p q text first h)).cause

pub count_printed : (a b : SinkTold) (p q : PrinterState) (text : List ℕ) → p ≡ first_printer → Prints a b p q text → NeverFalls a.faults b.faults
count_printed a b p q text first h = (carried_from a b p q text first h).count
