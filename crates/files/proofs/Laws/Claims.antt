-- What is to be believed of reads across a file holds. Assumes nothing.
use Rattle.files.specs.Claims.{AcrossChunks}
use Rattle.files.proofs.Laws.Answered.{file_answer_back, file_answer_bytes}
use Rattle.files.proofs.Laws.Bytes.{file_plan_bytes, file_plan_divides, file_plan_only}
use Rattle.files.proofs.Laws.Calls.{file_refused_exactly, file_answered_exactly}
use Rattle.files.proofs.Laws.Edges.{file_plan_edges}
use Rattle.files.proofs.Laws.Joins.{file_plan_joins, chunk_plan_reads, one_list_plan}

pub across_chunks : AcrossChunks
across_chunks =
    record {
      bytes = file_plan_bytes;
      divides = file_plan_divides;
      only = file_plan_only;
      edges = file_plan_edges;
      joins = file_plan_joins;
      each = chunk_plan_reads;
      one_list = one_list_plan;
      refused_exactly = file_refused_exactly;
      answered_exactly = file_answered_exactly;
      wrote = file_answer_back;
      wrote_bytes = file_answer_bytes;
    }
