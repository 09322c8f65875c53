-- `keys::read_redis_parts` meets its contract: one step for each part of the form. Assumes nothing.
use Rattle.texts.specs.Inner.{read_by}
use Rattle.texts.proofs.Laws.Steps.{begun, word_on, number_on, end_on, word_stops, number_stops, end_stops}
use Rattle.keys.specs.Keys.{redis_form}
use Rattle.keys.specs.Inner.{key_of}
use Rattle.keys.proofs.read_redis_parts.Goals as goal

pub returns-in_err-at : goal.returns-in_err-at
returns-in_err-at c =
    word_stops key_of (begun c.args.key.now redis_form 0) c.word.ensures c.in_err-at.was c.from_residual.ensures.1

pub returns-in_err-inode : goal.returns-in_err-inode
returns-in_err-inode c =
    number_stops key_of (word_on (begun c.args.key.now redis_form 0) c.word.ensures c.in_ok-at.was) c.read_decimal.ensures c.in_err-inode.was c.from_residual-in_err-inode.ensures.1

pub returns-in_err-at-2 : goal.returns-in_err-at-2
returns-in_err-at-2 c =
    word_stops key_of (number_on (word_on (begun c.args.key.now redis_form 0) c.word.ensures c.in_ok-at.was) c.read_decimal.ensures c.in_ok-inode.was) c.word-2.ensures c.in_err-at-2.was c.from_residual-in_err-at-2.ensures.1

pub returns-in_err-index : goal.returns-in_err-index
returns-in_err-index c =
    number_stops key_of (word_on (number_on (word_on (begun c.args.key.now redis_form 0) c.word.ensures c.in_ok-at.was) c.read_decimal.ensures c.in_ok-inode.was) c.word-2.ensures c.in_ok-at-2.was) c.read_decimal-2.ensures c.in_err-index.was c.from_residual-in_err-index.ensures.1

pub returns-in_err-end : goal.returns-in_err-end
returns-in_err-end c =
    end_stops key_of (number_on (word_on (number_on (word_on (begun c.args.key.now redis_form 0) c.word.ensures c.in_ok-at.was) c.read_decimal.ensures c.in_ok-inode.was) c.word-2.ensures c.in_ok-at-2.was) c.read_decimal-2.ensures c.in_ok-index.was) c.end.ensures c.in_err-end.was c.from_residual-in_err-end.ensures.1

pub returns : goal.returns
unfolding read_by
returns c =
    end_on key_of (number_on (word_on (number_on (word_on (begun c.args.key.now redis_form 0) c.word.ensures c.in_ok-at.was) c.read_decimal.ensures c.in_ok-inode.was) c.word-2.ensures c.in_ok-at-2.was) c.read_decimal-2.ensures c.in_ok-index.was) c.end.ensures c.in_ok-end.was
