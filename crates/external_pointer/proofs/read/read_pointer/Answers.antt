use Rattle.std.proofs.Common.{rules, arith, sym}
use Rattle.external_pointer.proofs.Words.{IsBytes, word_at-lt}
use Rattle.external_pointer.proofs.Spelled.{reads_again, pointer_bytes-from}
use Rattle.external_pointer.proofs.read.read_pointer.Goals as goal

pub returns-then-have-ne-POINTER_SIZE-clause-again :
    goal.returns-then-have-ne-POINTER_SIZE-clause-again
returns-then-have-ne-POINTER_SIZE-clause-again c = reads_again c.args.bytes.now _ tt (search rules)

pub returns-then-bytes-ne-EXTERNAL-clause-again : goal.returns-then-bytes-ne-EXTERNAL-clause-again
returns-then-bytes-ne-EXTERNAL-clause-again c = reads_again c.args.bytes.now _ tt (search rules)

pub returns-then-bytes-ne-ON_DISK-clause-again : goal.returns-then-bytes-ne-ON_DISK-clause-again
returns-then-bytes-ne-ON_DISK-clause-again c = reads_again c.args.bytes.now _ tt (search rules)

pub returns-then-size-raw_size-clause-again : goal.returns-then-size-raw_size-clause-again
returns-then-size-raw_size-clause-again c = reads_again c.args.bytes.now _ tt (search rules)

pub returns-then-size-ext_info-clause-again : goal.returns-then-size-ext_info-clause-again
returns-then-size-ext_info-clause-again c = reads_again c.args.bytes.now _ tt (search rules)

pub returns-clause-found : goal.returns-clause-found
returns-clause-found c =
    let bytes = c.args.bytes.now in
    let fits : IsBytes bytes = λ i. omega (arith, c.type_inv.bytes i) in (
      record {
        size = omega arith;
        value_id = omega (arith, word_at-lt 10 bytes fits, c.word.ensures);
        toast_rel = omega (arith, word_at-lt 14 bytes fits, c.word-2.ensures);
      },
      pointer_bytes-from bytes _ fits (omega arith) (omega arith) (omega arith) (omega arith) (omega arith) (sym c.word.ensures) (sym c.word-2.ensures),
    )

pub returns-clause-again : goal.returns-clause-again
returns-clause-again c = reads_again c.args.bytes.now _ (returns-clause-found c) tt
